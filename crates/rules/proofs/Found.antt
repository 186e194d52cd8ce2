-- What the library's searches find, in the words of tests by rows.
use Rattle.std.specs.Prelude.{◌<◌, ◌≤◌, ◌≡◌, Option, Some, None, MatchOption}
use Rattle.std.specs.Bool.{MatchBool}
use mathlib.Core.Bool.{beq}
use Rattle.std.specs.List.{IsAnyAnswer, enumerate_from, AllWithin, HoldsAt}
use Rattle.std.proofs.lemmas.List.FromFn.{length-enumerate_from, get_or-enumerate_from}
use Rattle.common.specs.Words.{ℕ, ⊎_elim, refl, Bool, true, false, List, length, get_or, arith, lt-ltb, le-ltb, sym, subst, zero-add}
use Rattle.common.proofs.Rows.{first_bad, first_bad_only, every, every_of, every_fails, some, some_of, some_at}
use Rattle.common.specs.Tests.{clash, true_or_false}
use Rattle.plan.specs.Rules.{row_below}

pub found : (t : ℕ → Bool) (n : ℕ) (r : Option ℕ) →
    MatchOption r ((i : ℕ) → 0 ≤ i → i < n → t i ≡ true)
    (λ b. (0 ≤ b) × (b < n) × (t b ≡ false) × ((i : ℕ) → 0 ≤ i → i < b → t i ≡ true)) →
    r ≡ row_below n (first_bad t n)
found t n (Some b) h =
    let l : b < n = h.1 in
    let e : first_bad t n ≡ b =
    first_bad_only t n b (record { within = omega arith; before = λ i l. h.3 i (omega arith) l; bad = λ l. h.2 }) in
    rw (e, lt-ltb b n l)
found t n None h =
    let e : first_bad t n ≡ n =
    first_bad_only t n n (record { within = omega arith; before = λ i l. h i (omega arith) l; bad = λ l. absurd (omega (arith, l)) }) in
    rw (e, le-ltb n n (omega arith))

-- of a list's elements, each tested with its index
module _ {X : Type 0} (test : ℕ → X → Bool) (xs : List X) (d : X) where
  abbrev numbered : List (ℕ × X)
  numbered = enumerate_from 0 xs

  at_row : (i : ℕ) → i < length xs → get_or numbered i (i, d) ≡ (i, get_or xs i d)
  at_row i l = rw zero-add at (get_or-enumerate_from 0 xs i (i, d) l)

  pub all_rows : (n : ℕ) → length xs ≡ n → (r : Bool) →
      MatchBool r (AllWithin (λ p. test p.0 p.1 ≡ true) numbered 0 (length numbered))
      ((k : ℕ) × (k < length numbered) × HoldsAt (λ p. test p.0 p.1 ≡ false) numbered k) →
      r ≡ every (λ i. test i (get_or xs i d)) n
  all_rows n e true h = sym (every_of _ n (λ i l.
      subst (λ (p : ℕ × X). test p.0 p.1 ≡ true) (at_row i (omega arith))
      (h i (i, d) (omega arith) (omega (arith, length-enumerate_from 0 xs)))))
  all_rows n e false h =
      let l : h.0 < n = omega (arith, h.1, length-enumerate_from 0 xs) in
      sym (every_fails _ h.0 n l
      (subst (λ (p : ℕ × X). test p.0 p.1 ≡ false) (at_row h.0 (omega arith)) (h.2 (h.0, d))))

is_yes : (x : Bool) → beq x true ≡ true → x ≡ true
is_yes true h = refl
is_yes false h = h

is_no : (x : Bool) → beq x true ≡ false → x ≡ false
is_no true h = h
is_no false h = refl

-- whether a list of yes and no has a yes
pub some_row : (xs : List Bool) (n : ℕ) → length xs ≡ n → (r : Bool) → IsAnyAnswer (λ x b. beq x true ≡ b) xs r →
    r ≡ some (λ i. get_or xs i false) n
some_row xs n e true h = sym (some_of (λ i. get_or xs i false) n h.0 (omega (arith, h.1)) (is_yes _ (h.2 false)))
some_row xs n e false h =
    ⊎_elim (λ (y : some (λ i. get_or xs i false) n ≡ true).
    let w = some_at (λ i. get_or xs i false) n y in
    absurd (clash w.2 (is_no _ (h w.0 false (omega arith) (omega (arith, w.1))))))
    (λ (n : some (λ i. get_or xs i false) n ≡ false). sym n)
    (true_or_false (some (λ i. get_or xs i false) n))
