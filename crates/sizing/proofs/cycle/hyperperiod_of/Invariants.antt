-- `sizing::cycle::hyperperiod_of`: the loop keeps the least common multiple of the receiver's period and the senders' passed.
use Rattle.std.specs.Prelude.{◌≤◌, ◌≡◌}
use Rattle.model.specs.Model.{multiple}
use Rattle.plan.specs.Limits.{longest_hyperperiod}
use Rattle.plan.specs.Plan.{queue_at}
use Rattle.sizing.proofs.cycle.hyperperiod_of.Given as goal

abbrev pub invariant-loop-i : goal.invariant-loop-i
invariant-loop-i l =
    (l.multiple ≡ Rattle.model.specs.Model.multiple (queue_at l.plan l.queue) l.i) × (l.multiple ≤ longest_hyperperiod)
