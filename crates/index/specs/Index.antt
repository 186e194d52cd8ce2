-- A dictionary over the rows that a text declares: for a key, the first row that has it. A row has a key in each of three roles.
use Rattle.std.specs.Prelude.{◌+◌, ◌*◌, ◌^◌, ◌<◌, ◌≤◌, ◌∷◌}
use Rattle.common.specs.Words.{ℕ, zero, suc, cond, List, [], map, eqb, length, take, drop, get_or}
use Rattle.common.specs.Stores.{part}
use Rattle.rows.specs.Rows.{Row, row_words, a_process, an_implementation, a_link}
use Rattle.keys.specs.declared.Key.{Key}
use Rattle.keys.specs.Keys.{key, Meaning, meant}
use Rattle.index.specs.Trees.{Sound}

-- ## Rows in memory

-- the first n rows, and row k by itself
unfoldable pub rows_in : ℕ → List ℕ → List Row
rows_in zero m = []
rows_in (suc n) m = take row_words m ∷ rows_in n (drop row_words m)

abbrev pub row_at : List ℕ → ℕ → Row
row_at m k = part m (row_words * k) row_words

abbrev pub column : Row → ℕ → ℕ
column row c = get_or row c 0

-- a number of row k of these
abbrev pub cell : List Row → ℕ → ℕ → ℕ
cell rows k c = column (get_or rows k []) c

-- ## Keys of a row

-- the sorts of keys that are no row's own: connections that are alike, and queues
abbrev pub a_connection : ℕ
a_connection = 7

abbrev pub a_queue : ℕ
a_queue = 8

abbrev pub no_key : Key
no_key = key 0 0 0 0 0

-- a second name, which only an implementation has
abbrev pub own_name : ℕ → ℕ → ℕ
own_name sort own = cond (eqb sort an_implementation) own 0

-- what a row is declared as: a process whatever its place, an implementation by its type's NAME and its own, any other row by its NAME and
-- what it is declared in
unfoldable pub declared_key : ℕ → ℕ → ℕ → ℕ → Key
declared_key sort within name own =
    cond (eqb sort a_process) (key a_process 0 0 0 0) (key sort within name (own_name sort own) 0)

-- role 0: what it is declared as; 1: a connection by its ends, the receiving port with them; 2: a connection by its queue
unfoldable pub key_by : ℕ → Row → Key
key_by role row =
    cond (eqb role 0) (declared_key (column row 0) (column row 1) (column row 2) (column row 4))
    (cond (eqb (column row 0) a_link)
    (cond (eqb role 1) (key a_connection (column row 1) (column row 4) (column row 6) (column row 7))
    (key a_queue (column row 1) (column row 6) (column row 7) 0))
    no_key)

unfoldable pub keys_of : List ℕ → ℕ → List Row → List Meaning
keys_of p role rows = map (λ (row : Row). meant p (key_by role row)) rows

-- ## The dictionary

abbrev pub most_rows : ℕ
most_rows = 2 ^ 31

-- the tree in lent memory finds the key of each of the rows in lent memory, `count` of them
pub record Indexed (p : List ℕ) (role : ℕ) (rows tree : List ℕ) (count : ℕ) : Type 0 where
  pub held : row_words * count ≤ length rows
  pub few : count < most_rows
  pub room : 2 * count + 2 ≤ length tree
  pub sound : Sound tree (keys_of p role (rows_in count rows))
