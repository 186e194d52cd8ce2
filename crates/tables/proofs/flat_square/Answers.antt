-- `tables::flat_square`: the array is made cell by cell.
use Rattle.common.specs.Words.{false, arith}
use Rattle.common.specs.Tests.{tests}
use Rattle.plan.proofs.Made.{made}
use Rattle.tables.specs.Table.{flat_entry}
use Rattle.tables.proofs.flat_square.Goals as goal

pub returns : goal.returns
returns c = made _ _ (flat_entry c.args.queues c.args.square.now) false 128 c.from_fn.ensures.items (λ i y q l k. grind (arith, tests))
