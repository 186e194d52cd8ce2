-- `properties::properties_in`.
use Rattle.words.specs.Kinds.{NONE}
use Rattle.words.specs.Same.{told_eq}
use Rattle.common.specs.Words.{rules, ap, ◌∙◌}
use Rattle.words.specs.Kinds.{PROPERTIES}
use Rattle.steps.specs.Steps.{the}
use Rattle.phrases.specs.Phrases.{nothing}
use Rattle.rows.specs.Said.{quiet}
use Rattle.rows.specs.States.{State, state_of, does}
use Rattle.rows.specs.Laws.{does_then, does_quiet}
use Rattle.properties.specs.Properties.{associations_in, none_or, properties_in}
use Rattle.properties.specs.Laws.{none_on, none_off}
use Rattle.properties.proofs.properties_in.Goals as goal

pub symbol_on-inner-requires : goal.symbol_on-inner-requires
unfolding properties_in
symbol_on-inner-requires c = search rules

pub next_of-requires : goal.next_of-requires
unfolding properties_in
next_of-requires c = search rules

pub nothing-requires : goal.nothing-requires
unfolding properties_in
nothing-requires c = search rules

pub on-requires : goal.on-requires
unfolding properties_in
on-requires c = search rules

pub returns-then-eq : goal.returns-then-eq
unfolding properties_in
returns-then-eq c =
    let a = c.args in
    λ m. let s = state_of a.text.now a.reading m in let t = state_of a.text.now c.symbol_on-inner.result m in
    rw (c.on.ensures, c.nothing.ensures)
    (does_quiet t nothing ∙ none_on (associations_in a.of) t (told_eq NONE c.next_of.ensures c.if-eq.ensures)
    ∙ ap (λ (x : State). does x (none_or (associations_in a.of))) (c.symbol_on-inner.ensures m)
    ∙ does_then s (quiet (the PROPERTIES)) (none_or (associations_in a.of)))

pub associations_in-requires : goal.associations_in-requires
unfolding properties_in
associations_in-requires c = search rules

pub returns : goal.returns
unfolding properties_in
returns c =
    let a = c.args in
    λ m. let s = state_of a.text.now a.reading m in let t = state_of a.text.now c.symbol_on-inner.result m in
    c.associations_in.ensures m ∙ none_off (associations_in a.of) t (told_eq NONE c.next_of.ensures c.if-eq.ensures)
    ∙ ap (λ (x : State). does x (none_or (associations_in a.of))) (c.symbol_on-inner.ensures m)
    ∙ does_then s (quiet (the PROPERTIES)) (none_or (associations_in a.of))
