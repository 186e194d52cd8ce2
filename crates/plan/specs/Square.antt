-- The square of yes and no, "which of 16 tasks send into which of 8 queues", as rows, one for each queue. A plan keeps it flat.
use Rattle.std.specs.Prelude.{◌+◌, ◌*◌, ◌<◌, ◌≡◌}
use Rattle.common.specs.Words.{ℕ, Bool, false, List, [], get_or}
use Rattle.common.specs.Table.{table, table_at}
use Rattle.plan.specs.Limits.{task_limit, queue_limit}
use Rattle.plan.specs.Plan.{sends_into}
use Rattle.plan.specs.declared.Plan.{Plan}

-- task i sends into queue q
abbrev pub entry : List (List Bool) → ℕ → ℕ → Bool
entry rows q i = get_or (get_or rows q []) i false

-- row q of a flat square, and the whole square
abbrev pub cell : List Bool → ℕ → ℕ → Bool
cell sends q i = get_or sends (q * task_limit + i) false

abbrev pub row_of : List Bool → ℕ → List Bool
row_of sends q = table (cell sends q) task_limit

abbrev pub square_of : List Bool → List (List Bool)
square_of sends = table (row_of sends) queue_limit

-- the square of a plan says what its flat field says
pub square_at : (p : Plan) (q i : ℕ) → q < queue_limit → i < task_limit → entry (square_of p.sends) q i ≡ sends_into p q i
square_at p q i a b =
    rw (table_at (row_of p.sends) queue_limit q [] a) (table_at (cell p.sends q) task_limit i false b)
