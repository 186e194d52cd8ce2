-- What a text declares, in text order: a row of ten numbers for each. A name is the place where it stands, 0 where none stands.
use Rattle.std.specs.Prelude.{◌+◌, ◌*◌, ◌∷◌}
use Rattle.rows.specs.declared.sort.Sort.{Sort}
use Rattle.common.specs.Words.{ℕ, List, [], cond, leb, length, get_or, sets}

abbrev pub Row : Type 0
Row = List ℕ

abbrev pub row_words : ℕ
row_words = 10

-- what a row is of
abbrev pub a_process : ℕ
a_process = 1

abbrev pub a_type : ℕ
a_type = 2

abbrev pub an_implementation : ℕ
an_implementation = 3

abbrev pub a_port : ℕ
a_port = 4

abbrev pub a_thread : ℕ
a_thread = 5

abbrev pub a_link : ℕ
a_link = 6

-- the code's names for these and for what has keys alone
abbrev pub begun_by : Sort → ℕ
begun_by Sort.Process = a_process
begun_by Sort.Type = a_type
begun_by Sort.Implementation = an_implementation
begun_by Sort.Port = a_port
begun_by Sort.Thread = a_thread
begun_by Sort.Link = a_link
begun_by Sort.Connection = 7
begun_by Sort.Queue = 8

abbrev pub property : List ℕ → ℕ → ℕ
property ps q = get_or ps q 0

-- those of a thread, in their order: Period, Deadline, Dispatch_Protocol, Dispatch_Offset, Priority
abbrev pub thread_properties : List ℕ → List ℕ
thread_properties ps = property ps 0 ∷ property ps 1 ∷ property ps 2 ∷ property ps 3 ∷ property ps 4 ∷ []

-- the columns of the first two, and of the last
abbrev pub period_column : ℕ
period_column = 5

abbrev pub deadline_column : ℕ
deadline_column = 6

abbrev pub priority_column : ℕ
priority_column = 9

-- the greatest value that stands there, of 255
abbrev pub most_value : ℕ
most_value = 257

-- a process implementation: the place of its "process"
unfoldable pub process_row : ℕ → Row
process_row p = a_process ∷ p ∷ p ∷ 0 ∷ 0 ∷ 0 ∷ 0 ∷ 0 ∷ 0 ∷ 0 ∷ []

-- a thread type: its NAME, the type that it extends, its properties
unfoldable pub type_row : ℕ → ℕ → List ℕ → Row
type_row n e ps = a_type ∷ 0 ∷ n ∷ e ∷ 0 ∷ thread_properties ps

-- a thread implementation: its type's NAME and its own, its properties
unfoldable pub implementation_row : ℕ → ℕ → List ℕ → Row
implementation_row t n ps = an_implementation ∷ 0 ∷ t ∷ 0 ∷ n ∷ thread_properties ps

-- a port: its type's NAME, its own, its direction, its properties
unfoldable pub port_row : ℕ → ℕ → ℕ → List ℕ → Row
port_row o n d ps = a_port ∷ o ∷ n ∷ d ∷ property ps 5 ∷ 0 ∷ 0 ∷ 0 ∷ 0 ∷ 0 ∷ []

-- a thread of a process: the process's place, its NAME, those of its type and its implementation, its properties
unfoldable pub thread_row : ℕ → ℕ → ℕ → ℕ → List ℕ → Row
thread_row p n t i ps = a_thread ∷ p ∷ n ∷ t ∷ i ∷ thread_properties ps

-- a port connection between threads: the process's place, its NAME, its first token's place, the sending thread's NAME and port's, the
-- receiving thread's and port's, its Timing
unfoldable pub link_row : ℕ → ℕ → ℕ → ℕ → ℕ → ℕ → ℕ → ℕ → Row
link_row p n f a b c d x = a_link ∷ p ∷ n ∷ f ∷ a ∷ b ∷ c ∷ d ∷ x ∷ 0 ∷ []

-- ## Rows in memory

-- lent memory, and how many rows it holds
pub record Store : Type 0 where
  pub memory : List ℕ
  pub count : ℕ

abbrev pub store : List ℕ → ℕ → Store
store m n = record { memory = m; count = n }

-- one row more, where there is room for it
unfoldable pub with_row : Store → Row → Store
with_row s row =
    cond (leb (row_words * s.count + row_words) (length s.memory)) (store (sets s.memory (row_words * s.count) row) (s.count + 1)) s

unfoldable pub with_rows : Store → List Row → Store
with_rows s [] = s
with_rows s (x ∷ xs) = with_rows (with_row s x) xs
