-- `values::block`.
use Rattle.steps.specs.Lifted.{lift}
use Rattle.values.specs.Laws.{block_then}
use Rattle.values.proofs.block.Goals as goal

pub returns : goal.returns
returns c =
    let a = c.args in
    rw (c.symbol-2.ensures, c.associations.ensures, c.symbol.ensures) (block_then (lift a.text.now a.went))
