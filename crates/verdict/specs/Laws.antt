-- Laws of the verdict: the least fault is found by going from check to check.
use Rattle.std.specs.Prelude.{Option, ◌+◌, ◌-◌, ◌<◌, ◌++◌, ◌≡◌}
use Rattle.common.specs.Words.{ℕ, cond, List, [], refl, eqb, add-one}
use Rattle.keys.specs.Keys.{meant}
use Rattle.steps.specs.declared.faults.Rule.TheVariants.{Unknown}
use Rattle.steps.specs.declared.faults.Fault.{Fault}
use Rattle.steps.specs.Faults.{worst}
use Rattle.rows.specs.Laws.{worst_append}
use Rattle.rows.specs.Rows.{Row}
use Rattle.index.specs.Found.{found}
use Rattle.index.specs.Index.{row_at, rows_in, key_by, keys_of}
use Rattle.index.specs.Laws.{row_in}
use Rattle.index.specs.Index.{cell}
use Rattle.verdict.specs.Verdict.{no_such_thread, fault_if, none, is_first, join_faults, end_faults, row_faults, faults_below}

-- no check
pub worst_none : (f : Option Fault) → f ≡ worst f []
unfolding worst
worst_none f = refl

-- one check after another
pub worst_then : (f : Option Fault) {g h : Option Fault} (a b : List Fault) → g ≡ worst f a → h ≡ worst g b → h ≡ worst f (a ++ b)
worst_then f a b x y = rw (worst_append f a b, ← x) y

-- a connection's threads, and then what is judged where both are there
pub ends_then : (p : List ℕ) (rows : List Row) (k s r : ℕ) (f : Option Fault) {g h i : Option Fault} →
    g ≡ worst f (fault_if (none s) Unknown (cell rows k 4) no_such_thread) →
    h ≡ worst g (fault_if (none r) Unknown (cell rows k 6) no_such_thread) →
    i ≡ worst h (cond (none s) [] (cond (none r) [] (join_faults p rows k (s - 1) (r - 1)))) → i ≡ worst f (end_faults p rows k s r)
unfolding end_faults
ends_then p rows k s r f x y z = worst_then f _ _ (worst_then f _ _ x y) z

-- "the first", as the code asks for it
pub first_at : (p : List ℕ) (role n : ℕ) (m : List ℕ) (k : ℕ) → k < n →
    is_first p role (rows_in n m) k ≡ eqb (found (meant p (key_by role (row_at m k))) (keys_of p role (rows_in n m))) (k + 1)
first_at p role n m k l = rw (row_in n m k l, add-one k)

-- one row more, as a loop counts it
pub below_more : (p : List ℕ) (rows : List Row) (k : ℕ) → faults_below p rows (k + 1) ≡ faults_below p rows k ++ row_faults p rows k
unfolding faults_below
below_more p rows k = rw (add-one k)
