-- Definition 1's order of the messages of a queue is strict and total, and for each sender it is a bound on its jobs.
use Rattle.std.specs.Prelude.{◌-◌, ◌<◌, ◌≤◌, ◌⊎◌, ◌↔◌, ◌≡◌}
use Rattle.common.specs.Words.{ℕ, arith, eq_of_mul-eq-mul_right, ℕ_discrete, true, false, true≢false, inl, inr, ⊎_elim, refl, sym, subst}
use Rattle.common.specs.Words.{◌∙◌}
use Rattle.common.specs.Tests.{lt_or_le, true_or_false, clash}
use Rattle.model.specs.Model.{Queue, Valid, Sender, deadline_of, count_of, precedes}
use Rattle.model.specs.Source.{Before, jobs_before}
use Rattle.model.proofs.Count.{count_iff}
use Rattle.model.proofs.Ties.{prec_irrefl, prec_trans, prec_total}

module _ (q : Queue) where
  pub before_irrefl : (i k : ℕ) → Before q i k i k → ⊥
  before_irrefl i k b =
      ⊎_elim (λ (h : deadline_of q i k < deadline_of q i k). omega arith) (λ h. clash h.1 (prec_irrefl q i)) b

  pub before_trans : (i k j l r m : ℕ) → Before q i k j l → Before q j l r m → Before q i k r m
  before_trans i k j l r m (inl a) (inl b) = inl (omega arith)
  before_trans i k j l r m (inl a) (inr b) = inl (omega (arith, b.0))
  before_trans i k j l r m (inr a) (inl b) = inl (omega (arith, a.0))
  before_trans i k j l r m (inr a) (inr b) = inr (a.0 ∙ b.0, prec_trans q i j r a.1 b.1)

module _ (q : Queue) (v : Valid q) where
  -- a deadline from 1 to P leaves no period of 0
  pub period_pos : (i : ℕ) → i < q.rows → 1 ≤ q.period i
  period_pos i l = omega (arith, v.deadline_pos i l, v.deadline_fits i l)

  pub deadline_positive : (i k : ℕ) → Sender q i → 1 ≤ deadline_of q i k
  deadline_positive i k s = omega (arith, v.deadline_pos i s.row)

  -- two messages are the same, or one goes before the other
  pub before_total : (i k j l : ℕ) → Sender q i → Sender q j → ((i ≡ j) × (k ≡ l)) ⊎ (Before q i k j l ⊎ Before q j l i k)
  before_total i k j l si sj =
      ⊎_elim (λ (h : deadline_of q i k < deadline_of q j l). inr (inl (inl h)))
      (λ (g : deadline_of q j l ≤ deadline_of q i k).
      ⊎_elim (λ (h : deadline_of q j l < deadline_of q i k). inr (inr (inl h)))
      (λ (h : deadline_of q i k ≤ deadline_of q j l).
      let e : deadline_of q i k ≡ deadline_of q j l = omega arith in
      elim (ℕ_discrete i j) [
        | yes x ↦ inl (x, same x (subst (λ (y : ℕ). deadline_of q i k ≡ deadline_of q y l) (sym x) e))
        | no n ↦
            ⊎_elim (λ (p : precedes q i j ≡ true). inr (inl (inr (e, p))))
            (λ (p : precedes q i j ≡ false). inr (inr (inr (sym e, prec_total q i j n p))))
            (true_or_false (precedes q i j))
      ])
      (lt_or_le (deadline_of q j l) (deadline_of q i k)))
      (lt_or_le (deadline_of q i k) (deadline_of q j l))
    where
      same : i ≡ j → deadline_of q i k ≡ deadline_of q i l → k ≡ l
      same x e = eq_of_mul-eq-mul_right (q.period i) (period_pos i si.row) k l (omega arith)

  -- the messages of row j before (i, k) are j's jobs below `jobs_before q i k j`
  pub before_iff : (i k j l : ℕ) → Sender q i → Sender q j → Before q j l i k ↔ (l < jobs_before q i k j)
  unfolding jobs_before
  before_iff i k j l si sj =
      ⊎_elim
      (λ (y : precedes q j i ≡ true).
      rw y (
        λ b. at_d.1 (⊎_elim (λ h. omega arith) (λ h. omega arith) b),
        λ h. ⊎_elim (λ (g : deadline_of q j l < deadline_of q i k). inl g)
            (λ g. inr (omega (arith, at_d.0 h), refl))
            (lt_or_le (deadline_of q j l) (deadline_of q i k)),
      ))
      (λ (n : precedes q j i ≡ false).
      rw n (
        λ b. before_d.1 (⊎_elim (λ h. omega arith) (λ h. absurd (true≢false (sym h.1))) b),
        λ h. inl (omega (arith, before_d.0 h, deadline_positive i k si)),
      ))
      (true_or_false (precedes q j i))
    where
      at_d : (l < count_of q (deadline_of q i k) j) ↔ (deadline_of q j l ≤ deadline_of q i k)
      at_d = count_iff (q.period j) (q.deadline j) l (deadline_of q i k) (period_pos j sj.row)

      before_d : (l < count_of q (deadline_of q i k - 1) j) ↔ (deadline_of q j l ≤ deadline_of q i k - 1)
      before_d = count_iff (q.period j) (q.deadline j) l (deadline_of q i k - 1) (period_pos j sj.row)
