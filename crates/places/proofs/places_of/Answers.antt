-- `places::places_of`: the array is made queue by queue.
use Rattle.common.specs.Words.{ltb, get_or, rules}
use Rattle.common.specs.Tests.{tests}
use Rattle.common.specs.Totals.{only, sum}
use Rattle.plan.proofs.Made.{made}
use Rattle.places.proofs.places_of.Goals as goal

pub returns : goal.returns
returns c =
    made _ _ (λ q. only (ltb q c.args.queues) (sum (λ r. get_or c.args.sizes r 0) q)) 0 8 c.from_fn.ensures.items
    (λ i y q l k. search (rules, tests))
