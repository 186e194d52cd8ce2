-- When a message is outdated. `outdated_at` and `horizon` are known outside only by the laws of this file, and `wanted_for` only by
-- `wanted_pos` and `wanted_fits`: a new length of it proves these two again, and nothing else.
use Rattle.std.specs.Prelude.{◌+◌, ◌-◌, ◌*◌, ◌/◌, ◌<◌, ◌≤◌, ◌↔◌, ◌≡◌}
use Rattle.common.specs.Words.{ℕ, suc, arith, le-div_iff_mul-le, mul-le-mul_right, lt_of_mul-lt-mul_right, div-mul-le_self, lt-div-mul-add}
use Rattle.common.specs.Words.{add-mul-div_right, ⊎_elim}
use Rattle.model.specs.Model.{Queue, Valid, receiver_period, horizon, wanted_for}
use Rattle.model.specs.Source.{job_for, outdated_at}
use Rattle.common.specs.Tests.{lt_or_le}

module _ (q : Queue) (v : Valid q) where
  -- all that is asked of `wanted_for`: a receiver's job has at least one tick to read in, and none after the next release
  pub wanted_pos : 1 ≤ wanted_for q
  unfolding wanted_for
  wanted_pos = omega (arith, v.deadline_pos q.receiver v.receiver_row, v.deadline_fits q.receiver v.receiver_row)

  pub wanted_fits : wanted_for q ≤ receiver_period q
  unfolding wanted_for
  wanted_fits = omega (arith, v.deadline_fits q.receiver v.receiver_row)

  receiver_period_pos : 1 ≤ receiver_period q
  receiver_period_pos = omega (arith, v.deadline_pos q.receiver v.receiver_row, v.deadline_fits q.receiver v.receiver_row)

  -- a message with deadline d is delivered at the first receiver's job at or after d
  pub job_from : (d : ℕ) → d ≤ job_for q d * receiver_period q
  job_from d = omega (arith, receiver_period_pos, lt-div-mul-add {a = d + (receiver_period q - 1)} {b = receiver_period q} receiver_period_pos)

  pub job_first : (d m : ℕ) → d ≤ m * receiver_period q → job_for q d ≤ m
  job_first d m h =
      let g : job_for q d < suc m =
      lt_of_mul-lt-mul_right (receiver_period q)
      (omega (arith, receiver_period_pos, div-mul-le_self (d + (receiver_period q - 1)) (receiver_period q))) in
      omega arith

  -- no message is outdated before its deadline
  pub outdated_after : (d : ℕ) → d ≤ outdated_at q d
  unfolding outdated_at
  outdated_after d = omega (arith, job_from d)

  -- outdated at tick r are exactly the messages with deadline at or before horizon r
  pub outdated_iff : (d r : ℕ) → 1 ≤ d → (outdated_at q d ≤ r) ↔ (d ≤ horizon q r)
  unfolding outdated_at horizon
  outdated_iff d r pos = (
    λ h.
        let m : job_for q d ≤ (r - wanted_for q) / receiver_period q = (le-div_iff_mul-le receiver_period_pos).1 (omega arith) in
        omega (arith, job_from d, mul-le-mul_right (receiver_period q) m),
    λ h.
        let m : job_for q d ≤ (r - wanted_for q) / receiver_period q = job_first d _ h in
        omega (arith, mul-le-mul_right (receiver_period q) m, div-mul-le_self (r - wanted_for q) (receiver_period q)),
  )

  -- a hyperperiod H later the horizon is H further, from tick `wanted_for` on; and never more than H
  pub horizon_later : (r h : ℕ) → wanted_for q ≤ r → horizon q (r + h * receiver_period q) ≡ horizon q r + h * receiver_period q
  unfolding horizon
  horizon_later r h from =
      let e : r + h * receiver_period q - wanted_for q ≡ (r - wanted_for q) + h * receiver_period q = omega arith in
      rw (e, add-mul-div_right (r - wanted_for q) h receiver_period_pos) (omega arith)

  pub horizon_back : (r : ℕ) → horizon q r ≤ r - wanted_for q
  unfolding horizon
  horizon_back r = div-mul-le_self (r - wanted_for q) (receiver_period q)

  pub horizon_later_le : (r h : ℕ) → horizon q (r + h * receiver_period q) ≤ horizon q r + h * receiver_period q
  horizon_later_le r h =
      ⊎_elim (λ (s : r < wanted_for q). omega (arith, horizon_back (r + h * receiver_period q)))
      (λ (s : wanted_for q ≤ r). omega (arith, horizon_later r h s))
      (lt_or_le r (wanted_for q))

  -- the horizon is less than two receiver's periods back
  pub horizon_near : (r : ℕ) → r < horizon q r + 2 * receiver_period q
  unfolding horizon
  horizon_near r = omega (arith, wanted_fits, lt-div-mul-add {a = r - wanted_for q} {b = receiver_period q} receiver_period_pos)
