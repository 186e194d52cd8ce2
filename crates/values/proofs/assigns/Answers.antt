-- `values::assigns`.
use Rattle.words.specs.Kinds.{ADDS}
use Rattle.words.specs.Same.{told_eq}
use Rattle.steps.specs.Lifted.{lift}
use Rattle.values.specs.Laws.{assigns_adds, assigns_becomes}
use Rattle.values.proofs.assigns.Goals as goal

pub returns-then-eq : goal.returns-then-eq
returns-then-eq c =
    let a = c.args in
    rw c.symbol.ensures (assigns_adds (lift a.text.now a.went) (told_eq ADDS c.next.ensures c.if-eq.ensures))

pub returns : goal.returns
returns c =
    let a = c.args in
    rw c.symbol-2.ensures (assigns_becomes (lift a.text.now a.went) (told_eq ADDS c.next.ensures c.if-eq.ensures))
