-- The first that is found on a way, as an option.
use Rattle.std.specs.Prelude.{Option, None, Some, ◌∷◌, ◌≡◌}
use Rattle.common.specs.Words.{ℕ, zero, suc, arith, ne_eqb, Bool, true, false, cond, List, [], refl, ap, ◌∙◌, eqb}
use Rattle.rows.specs.Rows.{Row}
use Rattle.index.specs.Index.{cell}
use Rattle.index.specs.Options.{row_of, value_of}
use Rattle.ways.specs.Ways.{or_else, first_some, first_in, given, implementation_of, property_of, way, ends}
use Rattle.ways.specs.Laws.{first_append}

-- a type that extends none
abbrev pub end_at : List Row → ℕ → Option ℕ
end_at rows k = cond (eqb (cell rows k 3) 0) (Some k) None

pub first_value : (has : ℕ → ℕ) (ks : List ℕ) → first_some (λ (j : ℕ). value_of (has j)) ks ≡ value_of (first_in has ks)
unfolding first_some first_in
first_value has [] = refl
first_value has (k ∷ ks) = rw (first_value has ks) (go (has k) (first_in has ks))
  where
    go : (n m : ℕ) → or_else (value_of n) (value_of m) ≡ value_of (cond (eqb n 0) m n)
    go zero m = refl
    go (suc n) m = rw (ne_eqb (suc n) 0 (λ e. omega arith))

pub first_row : (has : ℕ → ℕ) (ks : List ℕ) → first_some (λ (j : ℕ). row_of (has j)) ks ≡ row_of (first_in has ks)
unfolding first_some first_in
first_row has [] = refl
first_row has (k ∷ ks) = rw (first_row has ks) (go (has k) (first_in has ks))
  where
    go : (n m : ℕ) → or_else (row_of n) (row_of m) ≡ row_of (cond (eqb n 0) m n)
    go zero m = refl
    go (suc n) m = rw (ne_eqb (suc n) 0 (λ e. omega arith))

abbrev pub some : Option ℕ → Bool
some None = false
some (Some k) = true

pub first_end : (rows : List Row) (ks : List ℕ) → some (first_some (end_at rows) ks) ≡ ends rows ks
unfolding first_some ends
first_end rows [] = refl
first_end rows (k ∷ ks) = rw (← first_end rows ks) (go (eqb (cell rows k 3) 0) (first_some (end_at rows) ks))
  where
    go : (b : Bool) (o : Option ℕ) → some (or_else (cond b (Some k) None) o) ≡ cond b true (some o)
    go true o = refl
    go false o = refl

-- ## What a thread has, its implementation and the way along its types

or_value : (n m : ℕ) → value_of (cond (eqb n 0) m n) ≡ or_else (value_of n) (value_of m)
or_value zero m = refl
or_value (suc n) m = rw (ne_eqb (suc n) 0 (λ e. omega arith))

or_none : (o : Option ℕ) → or_else o None ≡ o
or_none None = refl
or_none (Some v) = refl

-- what a row has, where there is one
abbrev pub said_at : (ℕ → ℕ) → Option ℕ → Option ℕ
said_at has None = None
said_at has (Some i) = value_of (has i)

pub given_said : (has : ℕ → ℕ) (k n : ℕ) → value_of (first_in has (k ∷ given n)) ≡ or_else (value_of (has k)) (said_at has (row_of n))
unfolding first_in
given_said has k zero = or_value (has k) 0
given_said has k (suc i) =
    or_value (has k) (cond (eqb (has i) 0) 0 (has i)) ∙ ap (or_else (value_of (has k))) (or_value (has i) 0 ∙ or_none (value_of (has i)))

pub property_said : (p : List ℕ) (rows : List Row) (k c : ℕ) →
    value_of (property_of p rows k c) ≡ or_else (value_of (first_in (λ (j : ℕ). cell rows j c) (k ∷ given (implementation_of p rows k))))
    (value_of (first_in (λ (j : ℕ). cell rows j c) (way p rows k)))
unfolding property_of
property_said p rows k c =
    let has : ℕ → ℕ = λ j. cell rows j c in
    ap value_of (first_append has (k ∷ given (implementation_of p rows k)) (way p rows k))
    ∙ or_value (first_in has (k ∷ given (implementation_of p rows k))) (first_in has (way p rows k))
