-- `places::sizes_of`: the array is made queue by queue.
use Rattle.common.specs.Words.{ltb}
use Rattle.common.specs.Tests.{tests}
use Rattle.common.specs.Totals.{only}
use Rattle.common.specs.Words.{rules}
use Rattle.plan.proofs.Made.{made}
use Rattle.places.specs.Places.{least_size}
use Rattle.places.proofs.sizes_of.Goals as goal

pub returns : goal.returns
returns c =
    made _ _ (λ q. only (ltb q c.args.table.now.queues) (least_size c.args.table.now q)) 0 8 c.from_fn.ensures.items
    (λ i y q l k. search (rules, tests))
