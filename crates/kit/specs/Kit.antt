-- AADL.md, section 5: the table. Its numbers are those that planning takes.
use Rattle.std.specs.Prelude.{◌-◌, ◌/◌, ◌%◌, ◌≤◌, ◌∷◌}
use Rattle.std.proofs.Props.{props}
use Rattle.common.specs.Words.{ℕ, suc, Bool, false, not, cond, List, [], eqb, length}
use Rattle.common.specs.Table.{table}
use Rattle.keys.specs.Keys.{key}
use Rattle.rows.specs.Rows.{Row, period_column, deadline_column, priority_column, most_value}
use Rattle.index.specs.Index.{a_connection}
use Rattle.index.specs.Index.{cell}
use Rattle.ways.specs.Ways.{look, thread_named, property_of}
use Rattle.verdict.specs.Verdict.{none}
use Rattle.plan.specs.Limits.{task_limit, queue_limit, cell_limit}
use Rattle.chosen.specs.Chosen.{threads_of, queues_of, held, at_or}
use Rattle.findings.specs.declared.Table.{Table}

-- the number that a value says, a time in ticks or a priority; 0 where there is none
abbrev pub said_by : ℕ → ℕ
said_by value = value - 2

-- "No Deadline anywhere: equal to Period"; in the place of any other there is nothing. "No Priority: 0"
abbrev pub instead_of : ℕ → ℕ
instead_of c = cond (eqb c deadline_column) period_column c

-- "each with the Period, Deadline and Priority": a figure of a thread by its column
unfoldable pub figure_of : List ℕ → List Row → ℕ → ℕ → ℕ
figure_of p rows c k = said_by (cond (none (property_of p rows k c)) (property_of p rows k (instead_of c)) (property_of p rows k c))

-- where a row stands among others, by its number
unfoldable pub position : ℕ → List ℕ → ℕ
position n [] = 0
position n (k ∷ ks) = cond (eqb (suc k) n) 0 (suc (position n ks))

-- the task that receives from the queue of connection q
unfoldable pub receiver_of : List ℕ → List Row → ℕ → ℕ
receiver_of p rows q = position (thread_named p rows (cell rows q 1) (cell rows q 6)) (held (threads_of rows))

-- whether some connection joins thread k with the queue of connection q
unfoldable pub joins : List ℕ → List Row → ℕ → ℕ → Bool
joins p rows q k = not (none (look p 1 rows (key a_connection (cell rows q 1) (cell rows k 2) (cell rows q 6) (cell rows q 7))))

abbrev pub sends_at : List ℕ → List Row → List ℕ → List ℕ → ℕ → Bool
sends_at p rows ts qs c = at_or qs (λ (q : ℕ). at_or ts (joins p rows q) false (c % task_limit)) false (c / task_limit)

unfoldable pub table_of : List ℕ → List Row → Table
table_of p rows =
    let ts = threads_of rows in
    let qs = queues_of p rows in
    record {
      tasks = length ts;
      queues = length qs;
      period = table (at_or ts (figure_of p rows period_column) 0) task_limit;
      deadline = table (at_or ts (figure_of p rows deadline_column) 0) task_limit;
      priority = table (at_or ts (figure_of p rows priority_column) 0) task_limit;
      receiver = table (at_or qs (receiver_of p rows) 0) queue_limit;
      sends = table (sends_at p rows ts qs) cell_limit;
    }

-- rows of which none has a Priority over 255
pub record Ranked (rows : List Row) : Type 0 where
  pub low : (k : ℕ) → cell rows k priority_column ≤ most_value

pub ranked_prop : {rows : List Row} → IsProp (Ranked rows)
ranked_prop = Prim.hlevel props
