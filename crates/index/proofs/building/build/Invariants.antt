-- `index::build`: the rows so far are in the dictionary.
use Rattle.std.specs.Prelude.{◌≡◌, ◌-◌, ◌≤◌}
use Rattle.common.specs.Words.{length}
use Rattle.index.specs.Index.{Indexed}
use Rattle.index.proofs.building.build.Given as goal

abbrev pub invariant-loop-k : goal.invariant-loop-k
invariant-loop-k g l =
    Indexed l.text g.row.ROLE l.rows.memory.now l.tree l.k × (length l.tree ≡ length l.initial.tree) × (l.k ≤ l.rows.count)

abbrev pub decreases-loop-k : goal.decreases-loop-k
decreases-loop-k g l = l.rows.count - l.k
