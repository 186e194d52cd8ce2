-- Windows: the numbers that a receiver's job is given are those of the messages with deadlines after its previous release and not after
-- its own. The windows follow one another without hole or overlap.
use Rattle.std.specs.Prelude.{◌+◌, ◌-◌, ◌*◌, ◌<◌, ◌≤◌, ◌↔◌, ◌≡◌}
use Rattle.common.specs.Words.{ℕ, suc, arith, lt_of_not-le, not-le_of_lt, lt_of_mul-lt-mul_right, mul-le-mul_right, zero-mul}
use Rattle.common.specs.Tests.{having}
use Rattle.model.specs.Model.{Queue, Valid, Sender, receiver_period, deadline_of, up_to, number, first, last}
use Rattle.model.specs.Source.{job_for}
use Rattle.model.proofs.Number.{number_iff, up_to_zero, up_to_mono}
use Rattle.model.proofs.Outdating.{job_from, job_first}

module _ (q : Queue) (v : Valid q) where
  pub last_iff : (m i k : ℕ) → Sender q i → (number q i k ≤ last q m) ↔ (deadline_of q i k ≤ m * receiver_period q)
  unfolding last
  last_iff m i k s = number_iff q v i k s (m * receiver_period q)

  -- "all messages with deadlines in ((m-1)R, mR]". A deadline is never 0, so job 0's window has none
  pub window_iff : (m i k : ℕ) → Sender q i →
      ((first q m ≤ number q i k) × (number q i k ≤ last q m)) ↔
      (((m - 1) * receiver_period q < deadline_of q i k) × (deadline_of q i k ≤ m * receiver_period q))
  window_iff m i k s = (
    λ h. (
      lt_of_not-le (λ g. not-le_of_lt (omega (arith, h.0)) ((last_iff (m - 1) i k s).1 g)),
      (last_iff m i k s).0 h.1,
    ),
    λ h. (
      omega (arith, lt_of_not-le (λ g. not-le_of_lt h.0 ((last_iff (m - 1) i k s).0 g))),
      (last_iff m i k s).1 h.1,
    ),
  )

  -- "job 0: 1 and 0"
  pub window_zero : (first q 0 ≡ 1) × (last q 0 ≡ 0)
  unfolding last
  window_zero =
      let e : up_to q (0 * receiver_period q) ≡ 0 = rw (zero-mul (receiver_period q)) (up_to_zero q v) in
      (omega arith, e)

  -- no hole and no overlap
  pub window_next : (m : ℕ) → first q (suc m) ≡ last q m + 1
  window_next m = let e : suc m - 1 ≡ m = omega arith in rw e

  pub last_mono : (m n : ℕ) → m ≤ n → last q m ≤ last q n
  unfolding last
  last_mono m n h = up_to_mono q v _ _ (mul-le-mul_right (receiver_period q) h)

  -- the job whose window holds a message is the one that `job_for` says
  pub window_own : (m i k : ℕ) → Sender q i → 1 ≤ m →
      ((first q m ≤ number q i k) × (number q i k ≤ last q m)) ↔ (job_for q (deadline_of q i k) ≡ m)
  window_own m i k s pos = (
    λ h.
        having ((window_iff m i k s).0 h)
        (λ w.
        let a : job_for q (deadline_of q i k) ≤ m = job_first q v (deadline_of q i k) m w.1 in
        let b : m - 1 < job_for q (deadline_of q i k) =
        lt_of_mul-lt-mul_right (receiver_period q) (omega (arith, w.0, job_from q v (deadline_of q i k))) in
        omega arith),
    λ e.
        (window_iff m i k s).1 (
          lt_of_not-le (λ g. omega (arith, job_first q v (deadline_of q i k) (m - 1) g)),
          omega (arith, rw e at (job_from q v (deadline_of q i k))),
        ),
  )
