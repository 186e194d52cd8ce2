-- `lines::skip`: every stride passed is a whole one without a line feed, and the loop stops at the first place where none stands.
use Rattle.std.specs.Prelude.{◌-◌, ◌≤◌}
use Rattle.common.specs.Words.{length}
use Rattle.lines.specs.Strides.{Passed}
use Rattle.lines.proofs.skip.Given as goal

abbrev pub invariant-loop-i : goal.invariant-loop-i
invariant-loop-i l = Passed l.piece l.from l.i × (l.i ≤ length l.piece)

abbrev pub decreases-loop-i : goal.decreases-loop-i
decreases-loop-i l = length l.piece - l.i
