-- `declarations::list_in`.
use Rattle.words.specs.Kinds.{NONE}
use Rattle.words.specs.Same.{told_eq}
use Rattle.common.specs.Words.{ap, ◌∙◌}
use Rattle.phrases.specs.Phrases.{nothing}
use Rattle.rows.specs.States.{State, state_of, does}
use Rattle.rows.specs.Laws.{does_quiet}
use Rattle.properties.specs.Properties.{none_or}
use Rattle.properties.specs.Laws.{none_on, none_off}
use Rattle.declarations.specs.Sections.{listed}
use Rattle.declarations.specs.SectionLaws.{list_does}
use Rattle.declarations.proofs.list_in.Goals as goal

pub returns-then-eq : goal.returns-then-eq
returns-then-eq c =
    let a = c.args in
    let s = state_of a.text.now a.reading a.rows.now in let t = state_of a.text.now c.symbol_on-inner.result a.rows.now in
    rw (c.on.ensures, c.nothing.ensures)
    (does_quiet t nothing ∙ none_on (listed a.word a.place) t (told_eq NONE c.next.ensures c.if-eq.ensures)
    ∙ ap (λ (x : State). does x (none_or (listed a.word a.place))) (c.symbol_on-inner.ensures a.rows.now)
    ∙ list_does a.word a.place s)

pub returns : goal.returns
returns c =
    let a = c.args in
    let s = state_of a.text.now a.reading a.rows.now in let t = state_of a.text.now c.symbol_on-inner.result a.rows.now in
    c.listed.ensures ∙ none_off (listed a.word a.place) t (told_eq NONE c.next.ensures c.if-eq.ensures)
    ∙ ap (λ (x : State). does x (none_or (listed a.word a.place))) (c.symbol_on-inner.ensures a.rows.now) ∙ list_does a.word a.place s
