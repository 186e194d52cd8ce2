-- `chosen::queues`: the rows so far that are first connections to a queue were chosen.
use Rattle.std.specs.Prelude.{◌≡◌, ◌&&◌}
use Rattle.common.specs.Words.{ℕ, Bool, List, eqb}
use Rattle.rows.specs.Rows.{Row, a_link}
use Rattle.index.specs.Index.{cell}
use Rattle.index.specs.Held.{rows_of}
use Rattle.verdict.specs.Verdict.{is_first}
use Rattle.chosen.specs.Chosen.{chosen_below, chosen}
use Rattle.chosen.proofs.queues.Given as goal

-- whether row k is chosen
abbrev pub so : List ℕ → List Row → ℕ → Bool
so text rows k = eqb (cell rows k 0) a_link && is_first text 2 rows k

abbrev pub invariant-loop-k : goal.invariant-loop-k
invariant-loop-k l = l.found ≡ chosen (chosen_below (so l.queued.text.now (rows_of l.queued.rows)) l.k)
