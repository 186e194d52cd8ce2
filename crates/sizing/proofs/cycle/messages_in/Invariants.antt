-- `sizing::cycle::messages_in`: the loop keeps the sum over the rows passed, at most one message a tick for each.
use Rattle.std.specs.Prelude.{◌*◌, ◌≤◌, ◌≡◌}
use Rattle.common.specs.Totals.{sum}
use Rattle.model.specs.Model.{row_messages}
use Rattle.plan.specs.Limits.{longest_hyperperiod}
use Rattle.plan.specs.Plan.{queue_at}
use Rattle.sizing.proofs.cycle.messages_in.Given as goal

abbrev pub invariant-loop-i : goal.invariant-loop-i
invariant-loop-i l =
    (l.sum ≡ Rattle.common.specs.Totals.sum (row_messages (queue_at l.plan l.queue) l.ticks) l.i) × (l.sum ≤ longest_hyperperiod * l.i)
