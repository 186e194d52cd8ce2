-- `count::up_to_both`: the loop keeps both sums over the rows passed.
use Rattle.std.specs.Prelude.{◌≡◌}
use Rattle.common.specs.Totals.{sum}
use Rattle.model.specs.Model.{row_up_to}
use Rattle.plan.specs.Plan.{queue_at}
use Rattle.counting.proofs.count.up_to_both.Given as goal

abbrev pub invariant-loop-i : goal.invariant-loop-i
invariant-loop-i l =
    (l.both.low ≡ sum (row_up_to (queue_at l.plan l.queue) l.low.0) l.i)
    × (l.both.high ≡ sum (row_up_to (queue_at l.plan l.queue) l.high.0) l.i)
