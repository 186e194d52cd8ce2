-- Laws of ways: one type more, where the last one was, and what lent memory holds.
use Rattle.std.specs.Prelude.{Option, None, Some, IfSome, ◌+◌, ◌-◌, ◌<◌, ◌≤◌, ◌∷◌, ◌++◌, ◌≡◌}
use Rattle.common.specs.Words.{ℕ, zero, suc, arith, Bool, true, false, cond, List, [], refl, ap, ◌∙◌, eqb, ne_eqb, length}
use Rattle.common.specs.Words.{get_or, ⊎_elim, set, get_or-set_same, get_or-set_other}
use Rattle.common.specs.Tests.{lt_or_le}
use Rattle.std.proofs.Math.Numerals.{unary_clauses}
use Rattle.tokens.specs.Laws.{either}
use Rattle.keys.specs.Keys.{Meaning, key, meant}
use Rattle.index.specs.Found.{found, found_le}
use Rattle.index.specs.Options.{row_of, number_in, number_row, row_within}
use Rattle.index.specs.Index.{cell, rows_in, keys_of}
use Rattle.index.specs.Laws.{keys_length}
use Rattle.ways.specs.Ways.{look, type_named, above, way_by, way, most_types, first_in, port_of, Bounded}
use Rattle.ways.specs.Ways.{first_some, Known}

-- ## What is found is there

pub look_le : (p : List ℕ) (role n : ℕ) (m : List ℕ) (k : Meaning) → found k (keys_of p role (rows_in n m)) ≤ n
look_le p role n m k = omega (arith, found_le k (keys_of p role (rows_in n m)), keys_length p role n m)

pub type_le : (p : List ℕ) (n : ℕ) (m : List ℕ) (name : ℕ) → type_named p (rows_in n m) name ≤ n
unfolding type_named
type_le p n m name = go (eqb name 0) (look_le p 0 n m (meant p (key 2 0 name 0 0)))
  where
    go : (b : Bool) → look p 0 (rows_in n m) (key 2 0 name 0 0) ≤ n → cond b 0 (look p 0 (rows_in n m) (key 2 0 name 0 0)) ≤ n
    go true h = omega arith
    go false h = h

pub known_bounded : {p rows declared types : List ℕ} {count : ℕ} → Known p rows declared types count → Bounded types count
known_bounded {p} {rows} {declared} {types} {count} x =
    record { enough = x.enough; within = λ k l. rw (x.typed k l) (type_le p count rows (cell (rows_in count rows) k 3)) }

-- ## One type more

pub way_none : (up : ℕ → ℕ) (left : ℕ) → way_by up left 0 ≡ []
unfolding way_by
way_none up zero = refl
way_none up (suc left) = refl

pub way_step : (up : ℕ → ℕ) (left k : ℕ) → 0 < left → way_by up left (suc k) ≡ k ∷ way_by up (left - 1) (up k)
unfolding way_by
way_step up zero k l = absurd (omega arith)
way_step up (suc left) k l = simp unary_clauses refl

-- what a loop along the way keeps: what is left of it has what the whole has
pub record SomeLeft (up : ℕ → ℕ) (has : ℕ → Option ℕ) (left : ℕ) (next : Option ℕ) (all : Option ℕ) : Type 0 where
  pub same : first_some has (way_by up left (number_in next)) ≡ all

module _ {up : ℕ → ℕ} {has : ℕ → Option ℕ} {left : ℕ} {next all : Option ℕ} (x : SomeLeft up has left next all) where
  pub left_none : next ≡ None → None ≡ all
  unfolding first_some
  left_none e = rw (e, way_none up left) at x.same

  pub left_over : left ≤ 0 → None ≡ all
  unfolding first_some way_by
  left_over l = let z : left ≡ 0 = omega arith in rw z at x.same

  pub left_here : {k r : ℕ} → next ≡ Some k → 0 < left → Some r ≡ has k → Some r ≡ all
  unfolding first_some
  left_here {k} {r} e l h = rw (e, way_step up left k l, ← h) at x.same

  pub left_on : {k less : ℕ} → next ≡ Some k → 0 < left → None ≡ has k → less ≡ left - 1 → SomeLeft up has less (row_of (up k)) all
  unfolding first_some
  left_on {k} {less} e l h f = record { same = rw (number_row (up k), f) (rw (e, way_step up left k l, ← h) at x.same) }

-- ## In memory

-- the way in memory is the way
way_same : (up to : ℕ → ℕ) (count : ℕ) → ((k : ℕ) → k < count → up k ≡ to k) → ((k : ℕ) → k < count → to k ≤ count) →
    (left n : ℕ) → n ≤ count → way_by up left n ≡ way_by to left n
unfolding way_by
way_same up to count e w zero n l = refl
way_same up to count e w (suc left) zero l = refl
way_same up to count e w (suc left) (suc k) l =
    rw (e k (omega arith)) (ap (λ (ks : List ℕ). k ∷ ks) (way_same up to count e w left (to k) (w k (omega arith))))

pub known_way : {p rows declared types : List ℕ} {count : ℕ} → Known p rows declared types count → (k : ℕ) → k < count →
    way_by (λ (j : ℕ). get_or types j 0) most_types (get_or types k 0) ≡ way p (rows_in count rows) k
unfolding way
known_way {p} {rows} {declared} {types} {count} x k l =
    way_same (λ (j : ℕ). get_or types j 0) (above p (rows_in count rows)) count x.typed
    (λ j h. type_le p count rows (cell (rows_in count rows) j 3)) most_types
    (get_or types k 0) ((known_bounded x).within k l)
    ∙ ap (λ (n : ℕ). way_by (above p (rows_in count rows)) most_types n) (x.typed k l)

-- the same from the type above, as the code has it
pub known_from : {p rows declared types : List ℕ} {count : ℕ} → Known p rows declared types count → {k : ℕ} → k < count →
    {o : Option ℕ} → o ≡ row_of (above p (rows_in count rows) k) →
    way_by (λ (j : ℕ). get_or types j 0) most_types (number_in o) ≡ way p (rows_in count rows) k
known_from x {k} l e = rw (e, number_row _, ← x.typed k l) (known_way x k l)

-- a port that is found is there
first_le : (has : ℕ → ℕ) (n : ℕ) → ((j : ℕ) → has j ≤ n) → (ks : List ℕ) → first_in has ks ≤ n
unfolding first_in
first_le has n h [] = omega arith
first_le has n h (k ∷ ks) = either (λ (v : ℕ). v ≤ n) (eqb (has k) 0) (first_le has n h ks) (h k)

pub port_within : (p : List ℕ) (n : ℕ) (m : List ℕ) (k name : ℕ) → IfSome (row_of (port_of p (rows_in n m) k name)) (λ j. j < n)
unfolding port_of
port_within p n m k name = row_within _ (first_le _ n (λ j. look_le p 0 n m _) (way p (rows_in n m) k))

-- one entry more is right
pub types_more : {f : ℕ → ℕ} (types : List ℕ) {k v : ℕ} →
    ((j : ℕ) → j < k → get_or types j 0 ≡ f j) → k < length types → v ≡ f k →
    (j : ℕ) → j < k + 1 → get_or (set types k v) j 0 ≡ f j
types_more {f} types {k} {v} h l e j i =
    ⊎_elim (λ (b : j < k). get_or-set_other types k j v 0 (λ z. omega arith) ∙ h j b)
    (λ (b : k ≤ j).
    let z : j ≡ k = omega arith in
    rw z (get_or-set_same types k v 0 l ∙ e)) (lt_or_le j k)

-- ## A thread's properties

pub first_append : (has : ℕ → ℕ) (a b : List ℕ) → first_in has (a ++ b) ≡ cond (eqb (first_in has a) 0) (first_in has b) (first_in has a)
unfolding first_in
first_append has [] b = refl
first_append has (k ∷ ks) b = rw (first_append has ks b) (go (has k) (first_in has ks))
  where
    go : (n m : ℕ) → cond (eqb n 0) (cond (eqb m 0) (first_in has b) m) n
        ≡ cond (eqb (cond (eqb n 0) m n) 0) (first_in has b) (cond (eqb n 0) m n)
    go zero m = refl
    go (suc n) m = simp (ne_eqb (suc n) 0 (λ e. omega arith))
