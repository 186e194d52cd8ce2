-- `chosen::threads`: the rows so far that are threads were chosen.
use Rattle.std.specs.Prelude.{◌≡◌}
use Rattle.common.specs.Words.{ℕ, Bool, List, eqb}
use Rattle.rows.specs.Rows.{Row, a_thread}
use Rattle.index.specs.Index.{cell}
use Rattle.index.specs.Held.{rows_of}
use Rattle.chosen.specs.Chosen.{chosen_below, chosen}
use Rattle.chosen.proofs.threads.Given as goal

-- whether row k is chosen
abbrev pub so : List Row → ℕ → Bool
so rows k = eqb (cell rows k 0) a_thread

abbrev pub invariant-loop-k : goal.invariant-loop-k
invariant-loop-k l = l.found ≡ chosen (chosen_below (so (rows_of l.rows)) l.k)
