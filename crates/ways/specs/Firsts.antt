-- Along a way by numbers, where 0 stands for none: one type more, and a thread's properties. Options.antt says the same of options.
use Rattle.std.specs.Prelude.{◌-◌, ◌<◌, ◌≤◌, ◌∷◌, ◌≡◌}
use Rattle.common.specs.Words.{ℕ, zero, suc, arith, Bool, true, false, cond, List, refl, sym, ◌∙◌, eqb, eq-eqb, ne_eqb}
use Rattle.std.proofs.Math.Numerals.{unary_clauses}
use Rattle.rows.specs.Rows.{Row}
use Rattle.index.specs.Index.{cell}
use Rattle.ways.specs.Ways.{implementation_of, way_by, way, first_in, given, property_of, ends}
use Rattle.ways.specs.Laws.{way_none, way_step, first_append}

-- ## One type more

-- the first row on a way from number n, where n is one
number_step : (up : ℕ → ℕ) (left n : ℕ) → 0 < left → 0 < n → way_by up left n ≡ ((n - 1) ∷ way_by up (left - 1) (up (n - 1)))
number_step up left zero l h = absurd (omega arith)
number_step up left (suc k) l h = let e : suc k - 1 ≡ k = omega arith in rw e (way_step up left k l)

-- what a loop along the way keeps: what is left of it has what the whole has
pub record FirstLeft (up has : ℕ → ℕ) (left n all : ℕ) : Type 0 where
  pub same : first_in has (way_by up left n) ≡ all

module _ {up has : ℕ → ℕ} {left n all : ℕ} (x : FirstLeft up has left n all) where
  -- where the way is over, or has had its length, none has it
  pub first_none : n ≡ 0 → 0 ≡ all
  unfolding first_in
  first_none z = rw (z, way_none up left) at x.same

  pub first_over : left ≤ 0 → 0 ≡ all
  unfolding first_in way_by
  first_over l = let z : left ≡ 0 = omega arith in rw z at x.same

  -- the row here has it
  pub first_here : {v : ℕ} → 0 < left → 0 < n → v ≡ has (n - 1) → (v ≡ 0 → ⊥) → v ≡ all
  unfolding first_in
  first_here {v} l h i z = i ∙ rw (number_step up left n l h, ne_eqb (has (n - 1)) 0 (rw i at z)) at x.same

  -- it has not, and those above are left
  pub first_on : {v m : ℕ} → 0 < left → 0 < n → v ≡ has (n - 1) → v ≡ 0 → m ≡ up (n - 1) → FirstLeft up has (left - 1) m all
  unfolding first_in
  first_on {v} {m} l h i z u =
      record { same = rw u (rw (number_step up left n l h, eq-eqb (has (n - 1)) 0 (sym i ∙ z)) at x.same) }

-- and it ends as the whole does
pub record EndsLeft (up : ℕ → ℕ) (rows : List Row) (left n : ℕ) (all : Bool) : Type 0 where
  pub same : ends rows (way_by up left n) ≡ all

module _ {up : ℕ → ℕ} {rows : List Row} {left n : ℕ} {all : Bool} (x : EndsLeft up rows left n all) where
  -- where the way is over, or has had its length, it does not end
  pub ends_none : n ≡ 0 → false ≡ all
  unfolding ends
  ends_none z = rw (z, way_none up left) at x.same

  pub ends_over : left ≤ 0 → false ≡ all
  unfolding ends way_by
  ends_over l = let z : left ≡ 0 = omega arith in rw z at x.same

  -- the type here extends none
  pub ends_here : {v : ℕ} → 0 < left → 0 < n → v ≡ cell rows (n - 1) 3 → v ≡ 0 → true ≡ all
  unfolding ends
  ends_here l h i z = rw (number_step up left n l h, eq-eqb (cell rows (n - 1) 3) 0 (sym i ∙ z)) at x.same

  -- it extends one, and those above are left
  pub ends_on : {v m : ℕ} → 0 < left → 0 < n → v ≡ cell rows (n - 1) 3 →
      (v ≡ 0 → ⊥) → m ≡ up (n - 1) → EndsLeft up rows (left - 1) m all
  unfolding ends
  ends_on {v} {m} l h i z u =
      record { same = rw u (rw (number_step up left n l h, ne_eqb (cell rows (n - 1) 3) 0 (rw i at z)) at x.same) }

-- ## A thread's properties

-- where row k has none, the implementation's is the first of both
pub given_first : (has : ℕ → ℕ) (k n : ℕ) → has k ≡ 0 → (n ≡ 0 → ⊥) → has (n - 1) ≡ first_in has (k ∷ given n)
unfolding first_in
given_first has k zero z h = absurd (h refl)
given_first has k (suc n) z h = simp unary_clauses (rw (eq-eqb (has k) 0 z) (go (has n)))
  where
    go : (m : ℕ) → m ≡ cond (eqb m 0) 0 m
    go zero = refl
    go (suc m) = rw (ne_eqb (suc m) 0 (λ e. omega arith))

-- of thread k, which names implementation i: v is what it or the implementation has, where one of them has it
module _ (p : List ℕ) (rows : List Row) (k c : ℕ) {i v : ℕ} (named : i ≡ implementation_of p rows k)
    (own : v ≡ first_in (λ (j : ℕ). cell rows j c) (k ∷ given i)) where
  abbrev has : ℕ → ℕ
  has j = cell rows j c

  -- it is the property
  pub property_own : (v ≡ 0 → ⊥) → v ≡ property_of p rows k c
  unfolding property_of
  property_own z = rw (first_append has (k ∷ given (implementation_of p rows k)) (way p rows k), ← named, ← own, ne_eqb v 0 z)

  -- else the property is that of the first type on the way that has it
  pub property_else : {w : ℕ} → v ≡ 0 → w ≡ first_in has (way p rows k) → w ≡ property_of p rows k c
  unfolding property_of
  property_else z e = rw (first_append has (k ∷ given (implementation_of p rows k)) (way p rows k), ← named, ← own, eq-eqb v 0 z) e
