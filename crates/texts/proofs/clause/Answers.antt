-- `texts::clause`.
use Rattle.words.specs.Kinds.{PROPERTIES, WITH}
use Rattle.words.specs.Same.{told_eq}
use Rattle.common.specs.Words.{◌∙◌}
use Rattle.steps.specs.Lifted.{lift}
use Rattle.texts.specs.Laws.{clause_with, clause_properties, clause_word}
use Rattle.texts.proofs.clause.Goals as goal

pub returns-then-eq : goal.returns-then-eq
returns-then-eq c =
    let a = c.args in
    rw (c.paths.ensures, c.symbol.ensures) (clause_with (lift a.text.now a.went) (told_eq WITH c.next-kind.ensures c.if-eq.ensures))

pub returns-then-eq-2 : goal.returns-then-eq-2
returns-then-eq-2 c =
    let a = c.args in
    rw (c.none_or_some.ensures, c.symbol-then-eq-2.ensures)
    (clause_properties (lift a.text.now a.went) (told_eq WITH c.next-kind.ensures c.if-eq.ensures)
    (told_eq PROPERTIES c.next-kind.ensures c.if-eq-2.ensures))

pub returns : goal.returns
returns c =
    let a = c.args in
    c.any.ensures
    ∙ clause_word (lift a.text.now a.went) (told_eq WITH c.next-kind.ensures c.if-eq.ensures)
    (told_eq PROPERTIES c.next-kind.ensures c.if-eq-2.ensures)
