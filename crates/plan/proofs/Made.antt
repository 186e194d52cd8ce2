-- An array that is made of a function of the index, `array::from_fn`, is the definitions' table of that function.
use Rattle.std.specs.Prelude.{◌+◌, ◌<◌, ◌≤◌, ◌≡◌}
use Rattle.std.specs.Array.{IsFromFnResult, IsFromFnResultFrom}
use Rattle.std.specs.Fn.{Called}
use Rattle.common.specs.Words.{ℕ, zero, suc, arith, List, get_or, sym, subst, ◌∙◌, ext_get_or, eq-or-lt_of_le, ⊎_elim}
use Rattle.common.specs.Table.{table, table_length, table_at}
use denote.Param.Members.{Mut}

module _ {F B : Type 0} {g : Mut F (ℕ × Unit {0}) B} (f : F) (ys : List B) (h : ℕ → B) where
  each : (n i k : ℕ) → i + k ≡ n → IsFromFnResultFrom g f ys i k →
      ((j : ℕ) (y : B) (q : F) → j < n → Called g f (j, tt) y q → (q ≡ f) × (y ≡ h j)) →
      (j : ℕ) (d : B) → i ≤ j → j < n → get_or ys j d ≡ h j
  each n i zero e r same j d low high = absurd (omega arith)
  each n i (suc k) e r same j d low high =
      let a = same i r.1 r.0 (omega arith) r.3 in
      let rest : IsFromFnResultFrom g f ys (i + 1) k = subst (λ (x : F). IsFromFnResultFrom g x ys (i + 1) k) a.0 r.4 in
      ⊎_elim (λ (s : i ≡ j). subst (λ (x : ℕ). get_or ys x d ≡ h x) s (r.2.1 d ∙ a.1))
      (λ (l : i < j). each n (i + 1) k (omega arith) rest same j d (omega arith) high)
      (eq-or-lt_of_le low)

  -- d stands for what is read beyond the end
  pub made : (d : B) (n : ℕ) → IsFromFnResult g f ys n →
      ((j : ℕ) (y : B) (q : F) → j < n → Called g f (j, tt) y q → (q ≡ f) × (y ≡ h j)) → ys ≡ table h n
  made d n r same =
      ext_get_or d ys (table h n) (r.long ∙ sym (table_length h n))
      (λ j l. each n 0 n (omega arith) r.each same j d (omega arith) (omega (arith, r.long)) ∙ sym (table_at h n j d (omega (arith, r.long))))
