-- AADL.md, sections 4 and 6: which declaration a name means, and the way from a thread's type to the types that this one extends, along
-- which its properties and its ports are looked for.
use Rattle.std.specs.Prelude.{Option, None, Some, ◌<◌, ◌≤◌, ◌≡◌, ◌∷◌, ◌++◌}
use Rattle.common.specs.Words.{ℕ, zero, suc, Bool, true, false, cond, List, [], eqb, length, get_or}
use Rattle.keys.specs.declared.Key.{Key}
use Rattle.keys.specs.Keys.{key, meant}
use Rattle.rows.specs.Rows.{Row, a_type, an_implementation, a_port, a_thread}
use Rattle.index.specs.Found.{found}
use Rattle.index.specs.Index.{cell, rows_in, keys_of, Indexed}

-- "Where a name was declared twice, the first counts": its row's number counted from 1, 0 where there is none
abbrev pub look : List ℕ → ℕ → List Row → Key → ℕ
look p role rows k = found (meant p k) (keys_of p role rows)

-- the thread type of a NAME, where a NAME is given
unfoldable pub type_named : List ℕ → List Row → ℕ → ℕ
type_named p rows name = cond (eqb name 0) 0 (look p 0 rows (key a_type 0 name 0 0))

-- the type of a thread, and the one that a type extends
abbrev pub above : List ℕ → List Row → ℕ → ℕ
above p rows k = type_named p rows (cell rows k 3)

-- "the thread_impl that its classifier names", where it names one
unfoldable pub implementation_of : List ℕ → List Row → ℕ → ℕ
implementation_of p rows k =
    cond (eqb (cell rows k 4) 0) 0 (look p 0 rows (key an_implementation 0 (cell rows k 3) (cell rows k 4) 0))

-- a thread of a process, by its NAME
abbrev pub thread_named : List ℕ → List Row → ℕ → ℕ → ℕ
thread_named p rows process name = look p 0 rows (key a_thread process name 0 0)

-- ## The way along the types

abbrev pub most_types : ℕ
most_types = 8

-- "the thread's type, then .. the type that this one extends, and so on, 8 types at most": their rows, from a type's number on
unfoldable pub way_by : (ℕ → ℕ) → ℕ → ℕ → List ℕ
way_by up zero n = []
way_by up (suc left) zero = []
way_by up (suc left) (suc k) = k ∷ way_by up left (up k)

-- of a thread: the way that begins at its type
unfoldable pub way : List ℕ → List Row → ℕ → List ℕ
way p rows k = way_by (above p rows) most_types (above p rows k)

-- what the first has of those on a way that have it
unfoldable pub first_in : (ℕ → ℕ) → List ℕ → ℕ
first_in has [] = 0
first_in has (k ∷ ks) = cond (eqb (has k) 0) (first_in has ks) (has k)

-- the same as an option
abbrev pub or_else : Option ℕ → Option ℕ → Option ℕ
or_else None o = o
or_else (Some v) o = Some v

-- what the first has of those that have it
unfoldable pub first_some : (ℕ → Option ℕ) → List ℕ → Option ℕ
first_some has [] = None
first_some has (k ∷ ks) = or_else (has k) (first_some has ks)

-- "A thread's Period, Deadline, Dispatch_Protocol, Dispatch_Offset and Priority, each: from its block; else from the thread_impl ..; else
-- from the thread_type, then from the type that this one extends"
abbrev pub given : ℕ → List ℕ
given zero = []
given (suc k) = k ∷ []

unfoldable pub property_of : List ℕ → List Row → ℕ → ℕ → ℕ
property_of p rows k c = first_in (λ (j : ℕ). cell rows j c) ((k ∷ given (implementation_of p rows k)) ++ way p rows k)

-- "A port is looked for in the thread's type, then in the type that this one extends"
unfoldable pub port_of : List ℕ → List Row → ℕ → ℕ → ℕ
port_of p rows k name = first_in (λ (j : ℕ). look p 0 rows (key a_port (cell rows j 2) name 0 0)) (way p rows k)

-- "every type on the way stands in the text and the way ends within the 8": it comes to a type that extends none
unfoldable pub ends : List Row → List ℕ → Bool
ends rows [] = false
ends rows (k ∷ ks) = cond (eqb (cell rows k 3) 0) true (ends rows ks)

unfoldable pub ends_of : List ℕ → List Row → ℕ → Bool
ends_of p rows k = ends rows (way p rows k)

-- ## In lent memory

-- numbers of rows, each of a row that is there
pub record Bounded (types : List ℕ) (count : ℕ) : Type 0 where
  pub enough : count ≤ length types
  pub within : (k : ℕ) → k < count → get_or types k 0 ≤ count

-- a dictionary of what is declared, and for each row the number of the type above it
pub record Known (p rows declared types : List ℕ) (count : ℕ) : Type 0 where
  pub index : Indexed p 0 rows declared count
  pub enough : count ≤ length types
  pub typed : (k : ℕ) → k < count → get_or types k 0 ≡ above p (rows_in count rows) k
