-- Laws of the list f 0, f 1, .., f (n - 1): what a loop that fills an array from the front leaves.
use Rattle.std.specs.Prelude.{◌≡◌, ◌∷◌, ◌+◌, ◌<◌}
use Rattle.common.specs.Words.{refl, sym, ◌∙◌, List, [], ℕ, zero, suc, not-suc-le-zero, le_of_suc-le-suc, eq-or-lt_of_le, add-one, arith}
use Rattle.common.specs.Words.{⊎_elim, length, get_or, take, set, length-append, get_or-append, take_all, take-suc-set, get_or_at}
unfoldable pub use Rattle.common.specs.Terms.{table}

module _ {A : Type 0} where
  pub table_length : (f : ℕ → A) (n : ℕ) → length (table f n) ≡ n
  unfolding table
  table_length f zero = refl
  table_length f (suc n) = length-append (table f n) (f n ∷ []) ∙ (omega (arith, table_length f n))

  pub table_at : (f : ℕ → A) (n i : ℕ) (d : A) → i < n → get_or (table f n) i d ≡ f i
  unfolding table
  table_at f zero i d h = absurd (not-suc-le-zero h)
  table_at f (suc n) i d h =
      ⊎_elim (λ (e : i ≡ n). rw e (get_or_at (table f n) (f n) [] d n (table_length f n)))
      (λ (l : i < n). get_or-append (table f n) (f n ∷ []) d i (omega (arith, table_length f n)) ∙ table_at f n i d l)
      (eq-or-lt_of_le (le_of_suc-le-suc h))

  -- a loop that fills o from the front, one store a turn: none, one more, all
  pub table_none : (f : ℕ → A) (o : List A) → take 0 o ≡ table f 0
  unfolding table
  table_none f o = refl

  pub table_more :
      (f : ℕ → A) (o : List A) (k : ℕ) → k < length o → take k o ≡ table f k → take (k + 1) (set o k (f k)) ≡ table f (k + 1)
  unfolding table
  table_more f o k h e = rw (add-one k) (take-suc-set o k (f k) h ∙ rw e)

  pub table_all : (f : ℕ → A) (o : List A) (n : ℕ) → length o ≡ n → take n o ≡ table f n → o ≡ table f n
  table_all f o n l e = sym (take_all n o (omega arith)) ∙ e
