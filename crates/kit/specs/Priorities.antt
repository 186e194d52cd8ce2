-- Priorities fit a byte where no row has one over 255.
use Rattle.std.specs.Prelude.{◌≤◌, ◌<◌, ◌∷◌}
use Rattle.common.specs.Words.{ℕ, arith, List, [], eqb, ltb, length, get_or}
use Rattle.common.specs.Table.{table, table_at}
use Rattle.tokens.specs.Laws.{cases}
use Rattle.rows.specs.Rows.{Row, priority_column, most_value}
use Rattle.index.specs.Index.{cell}
use Rattle.ways.specs.Ways.{first_in, property_of}
use Rattle.plan.specs.Limits.{task_limit}
use Rattle.chosen.specs.Chosen.{threads_of, at_or}
use Rattle.kit.specs.Kit.{said_by, figure_of, Ranked}

abbrev pub InBytes : List ℕ → Type 0
InBytes figures = (i : ℕ) → i < task_limit → get_or figures i 0 ≤ 255

-- what the first has is no greater than what any has
first_low : (has : ℕ → ℕ) (m : ℕ) → ((k : ℕ) → has k ≤ m) → (ks : List ℕ) → first_in has ks ≤ m
unfolding first_in
first_low has m h [] = omega arith
first_low has m h (k ∷ ks) = cases (λ (n : ℕ). n ≤ m) (eqb (has k) 0) (λ _. first_low has m h ks) (λ _. h k)

priority_fits : (p : List ℕ) (rows : List Row) → Ranked rows → (k : ℕ) → figure_of p rows priority_column k ≤ 255
unfolding figure_of property_of
priority_fits p rows r k =
    let l : property_of p rows k priority_column ≤ most_value = first_low (λ (j : ℕ). cell rows j priority_column) most_value r.low _ in
    cases (λ (n : ℕ). said_by n ≤ 255) (eqb (property_of p rows k priority_column) 0) (λ _. omega (arith, l)) (λ _. omega (arith, l))

pub priorities_fit : (p : List ℕ) (rows : List Row) → Ranked rows →
    InBytes (table (at_or (threads_of rows) (figure_of p rows priority_column) 0) task_limit)
priorities_fit p rows r i l =
    rw (table_at (at_or (threads_of rows) (figure_of p rows priority_column) 0) task_limit i 0 l)
    (cases (λ (n : ℕ). n ≤ 255) (ltb i (length (threads_of rows))) {y = 0}
    (λ _. priority_fits p rows r (get_or (threads_of rows) i 0)) (λ _. omega arith))
