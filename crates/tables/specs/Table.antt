-- The table that planning is handed, as a plan that has no sizes yet: "queues and task rows beyond the counts are ignored and are zeros
-- in a plan we make".
use Rattle.std.specs.Prelude.{◌/◌, ◌%◌, ◌&&◌}
use Rattle.common.specs.Words.{ℕ, Bool, List, cond, ltb, get_or, replicate}
use Rattle.common.specs.Terms.{table}
use Rattle.plan.specs.Limits.{task_limit, queue_limit, cell_limit}
use Rattle.plan.specs.Square.{entry}
use Rattle.plan.specs.declared.Plan.{Plan}

-- the first n of a column's values, and zero beyond; the column has `limit` rows
abbrev pub value_within : {A : Type 0} → ℕ → List A → A → ℕ → A
value_within n values zero i = cond (ltb i n) (get_or values i zero) zero

abbrev pub counted : ℕ → ℕ → List ℕ → List ℕ
counted limit n values = table (value_within n values 0) limit

-- the square kept flat: entry q * 16 + i says whether task i sends into queue q
abbrev pub flat_entry : ℕ → List (List Bool) → ℕ → Bool
flat_entry queues square c = ltb (c / task_limit) queues && entry square (c / task_limit) (c % task_limit)

abbrev pub flat : ℕ → List (List Bool) → List Bool
flat queues square = table (flat_entry queues square) cell_limit

unfoldable pub tabled : ℕ → ℕ → List ℕ → List ℕ → List ℕ → List ℕ → List (List Bool) → Plan
tabled tasks queues period deadline priority receiver square = record {
  tasks = tasks;
  queues = queues;
  period = counted task_limit tasks period;
  deadline = counted task_limit tasks deadline;
  priority = counted task_limit tasks priority;
  receiver = counted queue_limit queues receiver;
  sends = flat queues square;
  size = replicate queue_limit 0;
  place = replicate queue_limit 0;
}
