-- When a size is fit: a test for each message by itself. Every size above a fit one is fit, and 0 is not.
use Rattle.std.specs.Prelude.{◌+◌, ◌-◌, ◌<◌, ◌≤◌, ◌↔◌}
use Rattle.common.specs.Words.{ℕ, arith, lt_of_not-le, not-le_of_lt, ⊎_elim}
use Rattle.common.specs.Tests.{lt_or_le, having}
use Rattle.model.specs.Model.{Queue, Valid, Sender, up_to, release_of, deadline_of, number, horizon, outdated}
use Rattle.model.specs.Source.{Fit, outdated_at}
use Rattle.model.proofs.Order.{deadline_positive}
use Rattle.model.proofs.Number.{number_iff, number_onto}
use Rattle.model.proofs.Outdating.{outdated_iff, outdated_after}

-- each message (i, k) finds its slot free: all but L of the messages up to it are outdated when its job is released
abbrev pub Free : Queue → ℕ → ℕ → ℕ → Type 0
Free q L i k = number q i k ≤ L + outdated q (release_of q i k)

module _ (q : Queue) (v : Valid q) where
  -- message (i, k) is among the outdated at r exactly when it is outdated at or before r
  pub outdated_counts : (i k r : ℕ) → Sender q i → (number q i k ≤ outdated q r) ↔ (outdated_at q (deadline_of q i k) ≤ r)
  unfolding outdated
  outdated_counts i k r s =
      let o : (outdated_at q (deadline_of q i k) ≤ r) ↔ (deadline_of q i k ≤ horizon q r) =
      outdated_iff q v (deadline_of q i k) r (deadline_positive q v i k s) in
      let n : (number q i k ≤ up_to q (horizon q r)) ↔ (deadline_of q i k ≤ horizon q r) = number_iff q v i k s (horizon q r) in
      (λ h. o.1 (n.0 h), λ h. n.1 (o.0 h))

  -- a message is not among those that are outdated when its job is released
  pub outdated_less : (i k : ℕ) → Sender q i → outdated q (release_of q i k) < number q i k
  outdated_less i k s =
      lt_of_not-le (λ g. not-le_of_lt (v.deadline_pos i s.row)
      (omega (arith, (outdated_counts i k (release_of q i k) s).0 g, outdated_after q v (deadline_of q i k))))

  -- the test that a program can make of one message after the other
  pub fit_iff : (L : ℕ) → Fit q L ↔ ((i k : ℕ) → Sender q i → Free q L i k)
  fit_iff L = (there, back)
    where
      there : Fit q L → (i k : ℕ) → Sender q i → Free q L i k
      there f j l s =
          ⊎_elim
          (λ (h : L + outdated q (release_of q j l) < number q j l).
          having (number_onto q v j (number q j l - L) s (omega arith))
          (λ m.
          absurd
          (omega (arith, m.3, (outdated_counts m.0 m.1 (release_of q j l) m.2).1 (f m.0 m.1 j l m.2 s (omega (arith, m.3)))))))
          (λ h. h)
          (lt_or_le (L + outdated q (release_of q j l)) (number q j l))

      back : ((i k : ℕ) → Sender q i → Free q L i k) → Fit q L
      back g i k j l si sj e = (outdated_counts i k (release_of q j l) si).0 (omega (arith, g j l sj))

  -- "Every L above a fit one is fit."
  pub fit_above : (L M : ℕ) → L ≤ M → Fit q L → Fit q M
  fit_above L M h f = (fit_iff M).1 (λ i k s. omega (arith, (fit_iff L).0 f i k s))

  -- so at least one slot is needed
  pub fit_pos : (L i : ℕ) → Sender q i → Fit q L → 1 ≤ L
  fit_pos L i s f = omega (arith, outdated_less i 0 s, (fit_iff L).0 f i 0 s)
