-- `phrases::direction`.
use Rattle.words.specs.Kinds.{IN}
use Rattle.words.specs.Same.{told_eq}
use Rattle.steps.specs.Lifted.{lift}
use Rattle.phrases.specs.Laws.{direction_in, direction_out}
use Rattle.phrases.proofs.direction.Goals as goal

pub returns-then-eq : goal.returns-then-eq
returns-then-eq c =
    let a = c.args in
    rw (c.maybe.ensures, c.symbol.ensures)
    (direction_in (lift a.text.now a.went) (told_eq IN c.next.ensures c.if-eq.ensures))

pub returns : goal.returns
returns c =
    let a = c.args in
    rw c.symbol-2.ensures (direction_out (lift a.text.now a.went) (told_eq IN c.next.ensures c.if-eq.ensures))
