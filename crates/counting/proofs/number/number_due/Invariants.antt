-- `number::number_due`: the loop keeps the sum over the rows passed, each up to the task's message.
use Rattle.std.specs.Prelude.{◌≡◌}
use Rattle.common.specs.Totals.{sum}
use Rattle.plan.specs.Plan.{queue_at}
use Rattle.counting.specs.Until.{row_until}
use Rattle.counting.proofs.number.number_due.Given as goal

abbrev pub invariant-loop-i : goal.invariant-loop-i
invariant-loop-i l =
    l.sum ≡ Rattle.common.specs.Totals.sum (row_until (queue_at l.plan l.queue) l.before.0 l.task) l.i
