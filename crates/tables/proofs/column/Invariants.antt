-- `tables::column`: the rows beyond the count that were passed are zero.
use Rattle.std.specs.Prelude.{◌<◌, ◌≡◌}
use Rattle.common.specs.Words.{ℕ, get_or}
use Rattle.tables.proofs.column.Given as goal

abbrev pub invariant-loop-row : goal.invariant-loop-row
invariant-loop-row g l = (k : ℕ) → k < l.row-index → get_or l.row-items k l.zero ≡ l.zero
