-- Equation 3 is a bound that needs no hyperperiod: it is fit, so the least fit size is never above it.
use Rattle.std.specs.Prelude.{◌+◌, ◌/◌, ◌<◌, ◌≤◌}
use Rattle.common.specs.Words.{ℕ, arith, le_refl}
use Rattle.common.specs.Totals.{only, sum, only_le, only_add, sum_add, sum_le, most_le}
use Rattle.model.specs.Model.{Queue, Valid, Sender, count_of, up_to, release_of, deadline_of, horizon, outdated, slots}
use Rattle.model.specs.Source.{Fit, reach, equation3}
use Rattle.model.proofs.Count.{count_within}
use Rattle.model.proofs.Order.{period_pos}
use Rattle.model.proofs.Number.{up_to_mono, number_below}
use Rattle.model.proofs.Outdating.{horizon_near}
use Rattle.model.proofs.Fit.{fit_iff}
use Rattle.model.proofs.Slots.{slots_least}

module _ (q : Queue) (v : Valid q) where
  -- x ticks hold at most x / P + 1 deadlines of a sender
  row_within : (t x j : ℕ) → j < q.rows →
      only (q.sends j) (count_of q (t + x) j) ≤ only (q.sends j) (count_of q t j) + only (q.sends j) (x / q.period j + 1)
  row_within t x j l =
      rw (← only_add (q.sends j) (count_of q t j) (x / q.period j + 1))
      (only_le (q.sends j) _ _ (λ y. count_within (q.period j) (q.deadline j) (period_pos q v j l) t x))

  up_to_within : (t x : ℕ) → up_to q (t + x) ≤ up_to q t + sum (λ j. only (q.sends j) (x / q.period j + 1)) q.rows
  unfolding up_to
  up_to_within t x = rw (← sum_add _ _ q.rows) (sum_le _ _ q.rows (row_within t x))

  deadline_reach : (i r : ℕ) → Sender q i → r + q.deadline i ≤ horizon q r + reach q
  unfolding reach
  deadline_reach i r s =
      omega (
        arith,
        horizon_near q v r,
        rw s.on at ((most_le (λ j. only (q.sends j) (q.deadline j)) q.rows _).0 (le_refl _) i s.row),
      )

  pub equation3_fit : Fit q (equation3 q)
  unfolding equation3 outdated
  equation3_fit =
      (fit_iff q v (equation3 q)).1
      (λ i k s.
      omega (
        arith,
        number_below q v i k s,
        up_to_mono q v (deadline_of q i k) (horizon q (release_of q i k) + reach q) (deadline_reach i (release_of q i k) s),
        up_to_within (horizon q (release_of q i k)) (reach q),
      ))

  pub slots_bound : slots q ≤ equation3 q
  slots_bound = slots_least q v (equation3 q) equation3_fit
