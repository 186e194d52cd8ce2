-- `phrases::maybe`.
use Rattle.words.specs.Same.{told_eq}
use Rattle.steps.specs.Steps.{the}
use Rattle.steps.specs.Lifted.{lift}
use Rattle.phrases.specs.Laws.{maybe_on, maybe_off}
use Rattle.phrases.proofs.maybe.Goals as goal

pub returns-then-eq : goal.returns-then-eq
returns-then-eq c =
    let a = c.args in
    rw c.symbol.ensures (maybe_on a.kind (the a.kind) (lift a.text.now a.went) (told_eq a.kind c.next.ensures c.if-eq.ensures))

pub returns : goal.returns
returns c =
    let a = c.args in maybe_off a.kind (the a.kind) (lift a.text.now a.went) (told_eq a.kind c.next.ensures c.if-eq.ensures)
