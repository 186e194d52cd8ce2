-- `ways::set_types`: the entries so far are the types above.
use Rattle.std.specs.Prelude.{◌<◌, ◌≡◌}
use Rattle.common.specs.Words.{ℕ, length, get_or}
use Rattle.index.specs.Held.{rows_of}
use Rattle.ways.specs.Ways.{above}
use Rattle.ways.proofs.set_types.Given as goal

abbrev pub invariant-loop-k : goal.invariant-loop-k
invariant-loop-k l =
    ((j : ℕ) → j < l.k → get_or l.types j 0 ≡ above l.declared.text.now (rows_of l.declared.rows) j)
    × (length l.types ≡ length l.initial.types)
