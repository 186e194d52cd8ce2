-- `values::association`.
use Rattle.steps.specs.Lifted.{lift}
use Rattle.values.specs.Laws.{association_then}
use Rattle.values.proofs.association.Goals as goal

pub returns : goal.returns
returns c =
    let a = c.args in
    rw (c.symbol.ensures, c.values.ensures, c.assigns.ensures, c.scoped.ensures)
    (association_then (lift a.text.now a.went))
