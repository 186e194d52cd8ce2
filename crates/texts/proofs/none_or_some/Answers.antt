-- `texts::none_or_some`.
use Rattle.words.specs.Kinds.{NONE}
use Rattle.words.specs.Same.{told_eq}
use Rattle.common.specs.Words.{◌∙◌}
use Rattle.steps.specs.Lifted.{lift}
use Rattle.texts.specs.Laws.{none_on, none_off}
use Rattle.texts.proofs.none_or_some.Goals as goal

pub returns-then-eq : goal.returns-then-eq
returns-then-eq c =
    let a = c.args in
    c.nothing.ensures ∙ none_on (lift a.text.now a.went) (told_eq NONE c.next.ensures c.if-eq.ensures)

pub returns : goal.returns
returns c =
    let a = c.args in
    c.associations.ensures ∙ none_off (lift a.text.now a.went) (told_eq NONE c.next.ensures c.if-eq.ensures)
