-- The rule for equal deadlines: what it says (`prec_higher`, `prec_equal`, `prec_iff`), and that it is a strict total order of the rows.
-- `precedes` is known outside only by the laws here. Another rule proves those down to `prec_total` again, and nothing else.
use Rattle.std.specs.Prelude.{◌<◌, ◌≤◌, ◌↔◌, ◌≡◌}
use Rattle.common.specs.Words.{ℕ, ℕ_discrete, arith, true, false, inl, inr, ⊎_elim, refl, sym, subst, ◌∙◌, ltb, ltb-true, ltb-false}
use Rattle.common.specs.Words.{lt-ltb, le-ltb, eq-eqb, ne_eqb}
use Rattle.common.specs.Tests.{true_or_false, clash}
use Rattle.model.specs.Model.{Queue, precedes}
use Rattle.model.specs.Source.{Ahead}

-- "the higher goes first,
pub prec_higher : (q : Queue) (i j : ℕ) → (q.priority i ≡ q.priority j → ⊥) → precedes q i j ≡ ltb (q.priority j) (q.priority i)
unfolding precedes
prec_higher q i j d = rw (ne_eqb (q.priority i) (q.priority j) d)

-- and equal priorities go by row."
pub prec_equal : (q : Queue) (i j : ℕ) → q.priority i ≡ q.priority j → precedes q i j ≡ ltb i j
unfolding precedes
prec_equal q i j e = rw (eq-eqb (q.priority i) (q.priority j) e)

pub prec_iff : (q : Queue) (i j : ℕ) → (precedes q i j ≡ true) ↔ Ahead q i j
prec_iff q i j =
    elim (ℕ_discrete (q.priority i) (q.priority j)) [
      | yes e ↦ (
        λ h. inr (e, ltb-true i j (sym (prec_equal q i j e) ∙ h)),
        λ h. prec_equal q i j e ∙ lt-ltb i j (⊎_elim (λ (l : q.priority j < q.priority i). omega arith) (λ g. g.1) h),
      )
      | no d ↦ (
        λ h. inl (ltb-true (q.priority j) (q.priority i) (sym (prec_higher q i j d) ∙ h)),
        λ h. prec_higher q i j d ∙ lt-ltb (q.priority j) (q.priority i) (⊎_elim (λ l. l) (λ g. absurd (d g.0)) h),
      )
    ]

pub prec_irrefl : (q : Queue) (i : ℕ) → precedes q i i ≡ false
prec_irrefl q i = prec_equal q i i refl ∙ le-ltb i i (omega arith)

pub prec_trans : (q : Queue) (i j k : ℕ) → precedes q i j ≡ true → precedes q j k ≡ true → precedes q i k ≡ true
prec_trans q i j k a b = (prec_iff q i k).1 (go ((prec_iff q i j).0 a) ((prec_iff q j k).0 b))
  where
    go : Ahead q i j → Ahead q j k → Ahead q i k
    go (inl a) (inl b) = inl (omega arith)
    go (inl a) (inr b) = inl (omega (arith, b.0))
    go (inr a) (inl b) = inl (omega (arith, a.0))
    go (inr a) (inr b) = inr (a.0 ∙ b.0, omega (arith, a.1, b.1))

pub prec_total : (q : Queue) (i j : ℕ) → (i ≡ j → ⊥) → precedes q i j ≡ false → precedes q j i ≡ true
prec_total q i j d a =
    elim (ℕ_discrete (q.priority i) (q.priority j)) [
      | yes e ↦
          let l : j ≤ i = ltb-false i j (sym (prec_equal q i j e) ∙ a) in
          (prec_iff q j i).1 (inr (sym e, omega arith))
      | no n ↦
          let l : q.priority i ≤ q.priority j = ltb-false (q.priority j) (q.priority i) (sym (prec_higher q i j n) ∙ a) in
          (prec_iff q j i).1 (inl (omega arith))
    ]

pub prec_asym : (q : Queue) (i j : ℕ) → precedes q i j ≡ true → precedes q j i ≡ false
prec_asym q i j h =
    ⊎_elim (λ (g : precedes q j i ≡ true). absurd (clash (prec_trans q i j i h g) (prec_irrefl q i))) (λ g. g)
    (true_or_false (precedes q j i))

pub prec_ne : (q : Queue) (i j : ℕ) → precedes q i j ≡ true → i ≡ j → ⊥
prec_ne q i j h e = clash h (subst (λ (x : ℕ). precedes q i x ≡ false) e (prec_irrefl q i))
