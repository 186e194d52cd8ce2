-- `soundness::places_good`: the sum of the sizes so far is the place that the next queue has to have. Each size was found to be at
-- most the limit before it is added.
use Rattle.std.specs.Prelude.{◌*◌, ◌-◌, ◌≤◌, ◌≡◌}
use Rattle.common.specs.Words.{true}
use Rattle.common.proofs.Rows.{every}
use Rattle.common.specs.Totals.{sum}
use Rattle.plan.specs.Plan.{size_at}
use Rattle.plan.specs.Rules.{place_good_at}
use Rattle.soundness.proofs.places_good.Given as goal

abbrev pub invariant-loop-q : goal.invariant-loop-q
invariant-loop-q l =
    (l.q ≤ l.q-end) × (l.total ≤ 1024 * l.q) × (l.total ≡ sum (size_at l.plan) l.q) × (every (place_good_at l.plan) l.q ≡ true)

abbrev pub decreases-loop-q : goal.decreases-loop-q
decreases-loop-q l = l.q-end - l.q
