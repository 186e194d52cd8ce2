-- Numbers counted from 1, and values of a row, as options: 0 is none.
use Rattle.std.specs.Prelude.{Option, None, Some, IfSome, ◌-◌, ◌<◌, ◌≤◌, ◌≡◌}
use Rattle.std.specs.Option.{option_eq, is_some, unwrap_or}
use Rattle.common.specs.Words.{ℕ, zero, suc, arith, Bool, cond, true, false, not, refl, sym, ap, ◌∙◌, ⊎_elim, eqb, eqb-true, eqb-false}
use Rattle.common.specs.Words.{eq-eqb, ne_eqb}
use Rattle.common.specs.Tests.{true_or_false}

-- the row that a number means, and the number of a row
abbrev pub row_of : ℕ → Option ℕ
row_of zero = None
row_of (suc k) = Some k

abbrev pub number_in : Option ℕ → ℕ
number_in None = 0
number_in (Some k) = suc k

-- what a row says in a column, where it says something
abbrev pub value_of : ℕ → Option ℕ
value_of zero = None
value_of (suc v) = Some (suc v)

pub number_row : (n : ℕ) → number_in (row_of n) ≡ n
number_row zero = refl
number_row (suc k) = refl

-- a number of a row that is there
pub row_within : (n : ℕ) {count : ℕ} → n ≤ count → IfSome (row_of n) (λ k. k < count)
row_within zero h = tt
row_within (suc k) h = omega arith

-- which row it is, by its number
pub same_row : (n k : ℕ) → option_eq eqb (row_of n) (Some k) ≡ eqb n (suc k)
same_row zero k = rw (ne_eqb 0 (suc k) (λ e. omega arith))
same_row (suc i) k =
    ⊎_elim (λ (b : eqb i k ≡ true). b ∙ sym (eq-eqb (suc i) (suc k) (ap suc (eqb-true i k b))))
    (λ (b : eqb i k ≡ false). b ∙ sym (ne_eqb (suc i) (suc k) (λ e. eqb-false i k b (omega (arith, e)))))
    (true_or_false (eqb i k))

-- ## Whether there is one

flip : (a b : Bool) → a ≡ not b → b ≡ not a
flip true true e = cc
flip true false e = refl
flip false true e = refl
flip false false e = cc

none_row : (n : ℕ) → not (is_some (row_of n)) ≡ eqb n 0
none_row zero = refl
none_row (suc k) = sym (ne_eqb (suc k) 0 (λ e. omega arith))

none_value : (n : ℕ) → not (is_some (value_of n)) ≡ eqb n 0
none_value zero = refl
none_value (suc v) = sym (ne_eqb (suc v) 0 (λ e. omega arith))

some_value : (n : ℕ) → is_some (value_of n) ≡ not (eqb n 0)
some_value zero = refl
some_value (suc v) = rw (ne_eqb (suc v) 0 (λ e. omega arith))

same_value : (n v : ℕ) → option_eq eqb (value_of n) (Some (suc v)) ≡ eqb n (suc v)
same_value zero v = sym (ne_eqb 0 (suc v) (λ e. omega arith))
same_value (suc n) v = refl

pub no_row : {b : Bool} {o : Option ℕ} (n : ℕ) → is_some o ≡ not b → o ≡ row_of n → b ≡ eqb n 0
no_row {b} {o} n x e = flip (is_some o) b x ∙ ap (λ (p : Option ℕ). not (is_some p)) e ∙ none_row n

pub no_value : {b : Bool} {o : Option ℕ} (n : ℕ) → is_some o ≡ not b → o ≡ value_of n → b ≡ eqb n 0
no_value {b} {o} n x e = flip (is_some o) b x ∙ ap (λ (p : Option ℕ). not (is_some p)) e ∙ none_value n

pub a_value : {b : Bool} {o : Option ℕ} (n : ℕ) → b ≡ is_some o → o ≡ value_of n → b ≡ not (eqb n 0)
a_value n x e = x ∙ ap is_some e ∙ some_value n

pub this_value : {b : Bool} {o : Option ℕ} (n v : ℕ) → b ≡ option_eq eqb o (Some (suc v)) → o ≡ value_of n → b ≡ eqb n (suc v)
this_value n v x e = x ∙ ap (λ (p : Option ℕ). option_eq eqb p (Some (suc v))) e ∙ same_value n v

-- the number of a row that was found, and of none
pub gone : (n : ℕ) → None ≡ row_of n → eqb n 0 ≡ true
gone zero e = refl
gone (suc k) e = cc

pub there : (n : ℕ) {j : ℕ} → Some j ≡ row_of n → eqb n 0 ≡ false
there zero e = cc
there (suc k) e = ne_eqb (suc k) 0 (λ h. omega arith)

pub there_row : (n : ℕ) {j : ℕ} → Some j ≡ row_of n → n - 1 ≡ j
there_row zero e = cc
there_row (suc k) {j} e =
    let f : j ≡ k = cc in
    omega (arith, f)

pub a_row : {b : Bool} {o : Option ℕ} (n : ℕ) → b ≡ is_some o → o ≡ row_of n → b ≡ not (eqb n 0)
a_row n x e = x ∙ ap is_some e ∙ some_row n
  where
    some_row : (n : ℕ) → is_some (row_of n) ≡ not (eqb n 0)
    some_row zero = refl
    some_row (suc k) = rw (ne_eqb (suc k) 0 (λ e. omega arith))

-- a value where something is said, and where nothing is
pub said_some : (n : ℕ) {v : ℕ} (m : ℕ) → Some v ≡ value_of n → v ≡ cond (eqb n 0) m n
said_some zero m e = cc
said_some (suc n) {v} m e =
    let f : v ≡ suc n = cc in
    rw (ne_eqb (suc n) 0 (λ h. omega arith)) f

pub said_none : (n m : ℕ) → None ≡ value_of n → m ≡ cond (eqb n 0) m n
said_none zero m e = refl
said_none (suc n) m e = cc

pub value_or_none : (n : ℕ) → unwrap_or (value_of n) 0 ≡ n
value_or_none zero = refl
value_or_none (suc n) = refl
