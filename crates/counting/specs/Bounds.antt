-- What a lent queue allows: its rows can be divided by, and its counts fit 64 bits up to the last tick.
use Rattle.std.specs.Prelude.{◌+◌, ◌*◌, ◌^◌, ◌<◌, ◌≤◌, ◌-◌, ◌≡◌}
use Rattle.common.specs.Words.{ℕ, arith, mul-le-mul_right, ⊎_elim, get_or}
use Rattle.common.specs.Tests.{lt_or_le}
use Rattle.common.specs.Totals.{sum, sum_next, sum_up}
use Rattle.model.specs.Model.{row_up_to, up_to, tick_of}
use Rattle.model.proofs.Order.{period_pos}
use Rattle.model.proofs.Number.{up_to_le, up_to_mono}
use Rattle.model.proofs.WayBack as model
use Rattle.plan.specs.Limits.{task_limit, last_tick}
use Rattle.plan.specs.Plan.{queue_at}
use Rattle.plan.specs.declared.Plan.{Plan}
use Rattle.counting.specs.Lent.{counted_at, Lent, up_to_altered}

module _ {p : Plan} {q : ℕ} (l : Lent p q) where
  pub row_positive : (i : ℕ) → i < p.tasks → (1 ≤ get_or p.period i 0) × (1 ≤ get_or p.deadline i 0)
  row_positive i h = (period_pos (counted_at p q) l.valid i h, l.valid.deadline_pos i h)

  -- what one row's count asks for, at a tick
  pub row_counts : (i t : ℕ) → i < p.tasks → t ≤ last_tick →
      (1 ≤ get_or p.period i 0) × (get_or p.deadline i 0 ≤ get_or p.period i 0) × (t + get_or p.period i 0 < 2 ^ 64)
  row_counts i t h g = ((row_positive i h).0, l.valid.deadline_fits i h, omega (arith, l.periods_fit i h))

  pub up_to_fits : (t : ℕ) → t ≤ last_tick → up_to (queue_at p q) t ≤ task_limit * last_tick
  up_to_fits t h =
      omega (
        arith,
        up_to_altered p q (queue_at p q).priority 0 t,
        up_to_le (counted_at p q) l.valid t,
        mul-le-mul_right t l.tasks_fit,
      )

  -- no part of the sum is more than all of it
  pub part_fits : (i t : ℕ) → i < p.tasks → t ≤ last_tick →
      let f = row_up_to (queue_at p q) t in sum f i + f i ≤ task_limit * last_tick
  unfolding up_to
  part_fits i t h g =
      let f = row_up_to (queue_at p q) t in
      omega (arith, sum_next f i, sum_up f (i + 1) p.tasks (omega arith), up_to_fits t g)

  -- more messages up to one tick than up to another: it lies after it
  pub lies_after : {t u n : ℕ} → up_to (queue_at p q) t < n → n ≤ up_to (queue_at p q) u → t < u
  lies_after {t} {u} {n} less more =
      let e = up_to_altered p q (queue_at p q).priority 0 in
      ⊎_elim (λ h. h) (λ h. absurd (omega (arith, e t, e u, up_to_mono (counted_at p q) l.valid u t h))) (lt_or_le t u)

  -- n messages up to a tick, and fewer up to the one before: it is the deadline of message n
  pub tick_of_is : (n t : ℕ) → 1 ≤ t → t ≤ last_tick → up_to (queue_at p q) (t - 1) < n → n ≤ up_to (queue_at p q) t →
      tick_of (queue_at p q) last_tick n ≡ t
  unfolding tick_of up_to
  tick_of_is n t pos within less more = model.tick_of_is (counted_at p q) l.valid last_tick n t pos within less more
