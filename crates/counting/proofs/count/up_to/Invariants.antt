-- `count::up_to`: the loop keeps the sum over the rows passed.
use Rattle.std.specs.Prelude.{◌≡◌}
use Rattle.common.specs.Totals.{sum}
use Rattle.model.specs.Model.{row_up_to}
use Rattle.plan.specs.Plan.{queue_at}
use Rattle.counting.proofs.count.up_to.Given as goal

abbrev pub invariant-loop-i : goal.invariant-loop-i
invariant-loop-i l = l.sum ≡ Rattle.common.specs.Totals.sum (row_up_to (queue_at l.plan l.queue) l.at.0) l.i
