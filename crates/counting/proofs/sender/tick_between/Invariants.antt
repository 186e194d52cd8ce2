-- `sender::tick_between`: the loop keeps fewer than n messages up to `early` and n or more up to `late`.
use Rattle.std.specs.Prelude.{◌≤◌, ◌<◌, ◌-◌}
use Rattle.model.specs.Model.{up_to}
use Rattle.plan.specs.Limits.{last_tick}
use Rattle.plan.specs.Plan.{queue_at}
use Rattle.counting.proofs.sender.tick_between.Given as goal

abbrev pub invariant-loop-late : goal.invariant-loop-late
invariant-loop-late l =
    (l.early < l.late) × (l.late ≤ last_tick)
    × (up_to (queue_at l.plan l.queue) l.early < l.n.0) × (l.n.0 ≤ up_to (queue_at l.plan l.queue) l.late)

abbrev pub decreases-loop-late : goal.decreases-loop-late
decreases-loop-late l = l.late - l.early
