-- The window of the receiver's job that was released last, and what may be remembered of it.
use Rattle.std.specs.Option.{ForSome}
use Rattle.std.specs.Prelude.{Option, Some, None, ◌+◌, ◌-◌, ◌*◌, ◌/◌, ◌^◌, ◌<◌, ◌≤◌, ◌&&◌, ◌≡◌}
use Rattle.common.specs.Words.{ℕ, arith, div-mul-le_self, div-eq_of_lt-le, mul-le-mul_right, Bool, true, leb, ltb, leb-true, ltb-true, refl, sym}
use Rattle.common.specs.Words.{ap, ◌∙◌}
use Rattle.common.specs.Tests.{both}
use Rattle.model.specs.Model.{Queue, receiver_period, released, up_to, first, last}
use Rattle.calendar.specs.Calendar.{tick, message}
use Rattle.plan.specs.Limits.{queue_limit, last_tick}
use Rattle.plan.specs.Plan.{queue_at, Usable}
use Rattle.plan.specs.declared.Plan.{Plan}
use Rattle.counting.specs.Lent.{lent}
use Rattle.counting.specs.Bounds.{up_to_fits}
use Rattle.window.specs.declared.Remembered.{Remembered}
use Rattle.window.specs.declared.WindowEnds.{WindowEnds}

-- of job k of a receiver with period P
abbrev pub job_window : Queue → ℕ → ℕ → WindowEnds
job_window q P k = record {
  low = tick (released P (k - 1));
  high = tick (released P k);
  before = message (up_to q (released P (k - 1)));
  end = message (up_to q (released P k));
}

-- of the job that was released last at tick t
abbrev pub window_at : Queue → ℕ → ℕ → WindowEnds
window_at q P t = job_window q P (t / P)

-- both its ticks are not after t
pub low_within : (P t : ℕ) → released P (t / P - 1) ≤ t
low_within P t =
    let l : t / P - 1 ≤ t / P = omega arith in
    omega (arith, mul-le-mul_right P l, div-mul-le_self t P)

pub high_within : (P t : ℕ) → released P (t / P) ≤ t
high_within P t = div-mul-le_self t P

pub low_before_high : (P t : ℕ) → released P (t / P - 1) ≤ released P (t / P)
low_before_high P t = mul-le-mul_right P (omega arith)

-- ## Of a plan's queue

module _ (p : Plan) (q t : ℕ) where
  abbrev pub plan_window : WindowEnds
  plan_window = window_at (queue_at p q) (receiver_period (queue_at p q)) t

  pub window_first : plan_window.before.0 + 1 ≡ first (queue_at p q) (t / receiver_period (queue_at p q))
  unfolding last
  window_first = refl

  pub window_last : plan_window.end.0 ≡ last (queue_at p q) (t / receiver_period (queue_at p q))
  unfolding last
  window_last = refl

  pub before_fits : Usable p q → t ≤ last_tick → plan_window.before.0 + 1 < 2 ^ 64
  before_fits u h =
      omega (arith, up_to_fits (lent p q u) plan_window.low.0 (omega (arith, low_within (receiver_period (queue_at p q)) t)))

-- ## Remembered from one call to the next

-- tick t comes at or after a release at tick r, and before the next one
abbrev pub runs_at : ℕ → ℕ → ℕ → Bool
runs_at r P t = leb r t && ltb (t - r) P

-- one of the receiver's jobs has the window w
abbrev pub JobsWindow : Queue → ℕ → WindowEnds → Type 0
JobsWindow q P w = (k : ℕ) × (w ≡ job_window q P k)

-- while that job runs, it is the window
pub still_runs : (q : Queue) (P t : ℕ) {w : WindowEnds} → JobsWindow q P w → runs_at w.high.0 P t ≡ true → w ≡ window_at q P t
still_runs q P t {w} (k, e) h =
    let b = both (leb w.high.0 t) h in
    let r : w.high.0 ≡ k * P = rw e in
    let l : w.high.0 ≤ t = leb-true _ _ b.0 in
    let n : t - w.high.0 < P = ltb-true _ _ b.1 in
    e ∙ ap (job_window q P) (sym (div-eq_of_lt-le P (omega (arith, l, r)) (omega (arith, l, n, r))))

-- what is remembered of a plan: the window of one of a receiver's jobs, or nothing
abbrev pub Remembers : Plan → Option Remembered → Type 0
Remembers p o =
    ForSome o (λ r. r.queue < queue_limit → JobsWindow (queue_at p r.queue) (receiver_period (queue_at p r.queue)) r.window)

pub remembers_nothing : (p : Plan) → Remembers p None
remembers_nothing p r e = cc

-- of the queue that is remembered
pub remembered_window : (p : Plan) (q : ℕ) {o : Option Remembered} → Remembers p o → q < queue_limit →
    ForSome o (λ r. r.queue ≡ q → JobsWindow (queue_at p q) (receiver_period (queue_at p q)) r.window)
remembered_window p q h l r s e = rw e at (h r s (omega (arith, e, l)))

pub remembers_window : (p : Plan) (q t : ℕ) {r : Remembered} → r ≡ record { queue = q; window = plan_window p q t } → Remembers p (Some r)
remembers_window p q t e r s =
    let k : r ≡ record { queue = q; window = plan_window p q t } = cc in
    rw k (λ h. (t / receiver_period (queue_at p q), refl))
