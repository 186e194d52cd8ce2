-- What the lookups answer in document 01's numbers, line by line.
use Rattle.std.specs.Prelude.{◌∷◌, ◌≡◌, Err}
use Rattle.common.specs.Words.{ℕ, cond, not, [], ltb, eqb}
use Rattle.model.specs.Model.{receiver_period, released, deadline_of, number, up_to, sender_of, job_of, first, last}
use Rattle.lookups.specs.Types.{Job, Number, Plan}
use Rattle.plan.specs.Limits.{last_tick}
use Rattle.plan.specs.Plan.{queue_at}
use Rattle.plan.specs.Says.{no}
use Rattle.plan.specs.Verdicts.{judged_map}
use Rattle.plan.specs.Rules.{sound_plan, connected}
use Rattle.lookups.specs.Lookups.{number_lines, numbered_of, origin_lines, origins_of, window_lines, window_of}
pub use Rattle.lookups.specs.Lookups.{numbered_says, origins_says, window_says}

-- "lookups 7, 9, then 11 or 15"
pub number_says : (p : Plan) (q i : ℕ) (k : Job) →
    numbered_says (numbered_of p q i k) ≡
    cond (not (sound_plan p)) (no 7)
    (cond (not (connected p q i)) (no 9)
    (cond (ltb last_tick (deadline_of (queue_at p q) i k.0)) (no 11)
    (0, number (queue_at p q) i k.0 ∷ [])))
unfolding numbered_of
number_says p q i k = judged_map numbered_says (number_lines p q i k) Err _

pub origins_says_lem : (p : Plan) (q : ℕ) (n : Number) →
    origins_says (origins_of p q n) ≡
    cond (not (sound_plan p)) (no 7)
    (cond (not (ltb q p.queues)) (no 9)
    (cond (eqb n.0 0) (no 15)
    (cond (ltb (up_to (queue_at p q) last_tick) n.0) (no 15)
    (0, sender_of (queue_at p q) last_tick n.0 ∷ job_of (queue_at p q) last_tick n.0 ∷ []))))
unfolding origins_of
origins_says_lem p q n = judged_map origins_says (origin_lines p q n) Err _

pub window_says_lem : (p : Plan) (q : ℕ) (m : Job) →
    window_says (window_of p q m) ≡
    cond (not (sound_plan p)) (no 7)
    (cond (not (ltb q p.queues)) (no 9)
    (cond (ltb last_tick (released (receiver_period (queue_at p q)) m.0)) (no 11)
    (0, first (queue_at p q) m.0 ∷ last (queue_at p q) m.0 ∷ [])))
unfolding window_of
window_says_lem p q m = judged_map window_says (window_lines p q m) Err _
