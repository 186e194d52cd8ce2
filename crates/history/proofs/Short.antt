-- Where a size is below the least fit one, some message's slot is asked for again before that message is outdated; and such a pair lies
-- within the first hyperperiods, so that its ticks are small. It leans on the model's `slots`, the greatest need of the second hyperperiod.
use Rattle.std.specs.Prelude.{◌+◌, ◌-◌, ◌*◌, ◌/◌, ◌≤◌, ◌<◌, ◌≡◌}
use Rattle.common.specs.Words.{ℕ, zero, suc, arith, lt_of_not-le, not-le_of_lt, mul-le-mul_right, Bool, true, false, ⊎_elim, refl}
use Rattle.common.specs.Tests.{lt_or_le, having}
use Rattle.common.specs.Totals.{only, most}
use Rattle.model.specs.Model.{Queue, Valid, Sender, receiver_period, release_of, deadline_of, number, need, row_slots, slots_over, slots, hyperperiod}
use Rattle.model.specs.Source.{CommonMultiple, outdated_at}
use Rattle.model.proofs.Order.{period_pos}
use Rattle.model.proofs.Number.{number_onto}
use Rattle.model.proofs.Fit.{outdated_counts}
use Rattle.model.proofs.Multiple.{hyperperiod_common}

-- message (j, l) takes the slot of message (i, k), and its job is released before that one is outdated
pub record Short (q : Queue) (L : ℕ) : Type 0 where
  pub i : ℕ
  pub k : ℕ
  pub j : ℕ
  pub l : ℕ
  pub first_sender_lem : Sender q i
  pub second_sender : Sender q j
  pub apart : number q j l ≡ number q i k + L
  pub early : release_of q j l < outdated_at q (deadline_of q i k)
  pub soon : release_of q j l < 2 * hyperperiod q

-- what exceeds b, where the greatest does
most_found : (f : ℕ → ℕ) (n b : ℕ) → b < most f n → (x : ℕ) × (x < n) × (b < f x)
unfolding most
most_found f zero b h = absurd (omega arith)
most_found f (suc n) b h =
    ⊎_elim (λ (l : b < f n). (n, omega arith, l))
    (λ (g : f n ≤ b). having (most_found f n b (omega arith)) (λ x. (x.0, omega (arith, x.1), x.2)))
    (lt_or_le b (f n))

only_found : (s : Bool) (b n : ℕ) → b < only s n → (s ≡ true) × (b < n)
only_found true b n h = (refl, h)
only_found false b n h = absurd (omega arith)

pub periods_fit : (q : Queue) (H : ℕ) → CommonMultiple q H → (receiver_period q ≤ H) × ((i : ℕ) → Sender q i → q.period i ≤ H)
periods_fit q H hy = (whole (receiver_period q) (H / receiver_period q) hy.receiver, λ i s. whole (q.period i) (H / q.period i) (hy.row i s))
  where
    whole : (P n : ℕ) → n * P ≡ H → P ≤ H
    whole P zero e = absurd (omega (arith, hy.pos))
    whole P (suc n) e = omega arith

module _ (q : Queue) (v : Valid q) where
  -- a message that needs more than L slots
  needing : (L j x : ℕ) → Sender q j → x < hyperperiod q / q.period j → L < need q j (hyperperiod q / q.period j + x) → Short q L
  unfolding need
  needing L j x s b h =
      let l : ℕ = hyperperiod q / q.period j + x in
      having (number_onto q v j (number q j l - L) s (omega arith))
      (λ m.
      record {
        i = m.0;
        k = m.1;
        j = j;
        l = l;
        first_sender_lem = m.2;
        second_sender = s;
        apart = omega (arith, m.3);
        early =
            lt_of_not-le (λ g. not-le_of_lt (omega (arith, m.3)) ((outdated_counts q v m.0 m.1 (release_of q j l) m.2).1 g));
        soon = omega (arith, (hyperperiod_common q v).row j s, mul-le-mul_right (q.period j) b, pos j s);
      })
    where
      pos : (j : ℕ) → Sender q j → 1 ≤ q.period j
      pos j s = period_pos q v j s.row

  pub too_small : (L : ℕ) → L < slots q → Short q L
  unfolding slots slots_over row_slots
  too_small L h =
      having (most_found _ q.rows L h)
      (λ r.
      having (only_found (q.sends r.0) L _ r.2)
      (λ o.
      having (most_found _ (hyperperiod q / q.period r.0) L o.1)
      (λ x. needing L r.0 x.0 (record { row = r.1; on = o.0 }) x.1 x.2)))
