-- `sizing::needs::need_of`: the loop keeps the sum over the rows passed, each from the horizon up to the task's message.
use Rattle.std.specs.Prelude.{◌≡◌}
use Rattle.common.specs.Totals.{sum}
use Rattle.plan.specs.Plan.{queue_at}
use Rattle.sizing.specs.Above.{row_above}
use Rattle.sizing.proofs.needs.need_of.Given as goal

abbrev pub invariant-loop-i : goal.invariant-loop-i
invariant-loop-i l =
    l.sum ≡ Rattle.common.specs.Totals.sum (row_above (queue_at l.plan l.queue) l.horizon.0 l.before.0 l.task) l.i
