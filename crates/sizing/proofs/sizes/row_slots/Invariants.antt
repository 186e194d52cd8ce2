-- `sizing::sizes::row_slots`: the loop keeps the greatest need of the jobs passed, and asks one job for each horizon: the last that is
-- released before it moves.
use Rattle.std.specs.Prelude.{◌+◌, ◌-◌, ◌≤◌, ◌≡◌}
use Rattle.common.specs.Totals.{most}
use Rattle.plan.specs.Plan.{queue_at}
use Rattle.sizing.specs.Needs.{need_for}
use Rattle.sizing.proofs.sizes.row_slots.Given as goal

abbrev pub invariant-loop-k : goal.invariant-loop-k
invariant-loop-k l =
    let q = queue_at l.plan l.queue in
    (l.k ≤ l.jobs) × (l.most ≡ Rattle.common.specs.Totals.most (λ k. need_for q l.chart l.wanted l.task (l.jobs + k)) l.k)

abbrev pub decreases-loop-k : goal.decreases-loop-k
decreases-loop-k l = l.jobs - l.k
