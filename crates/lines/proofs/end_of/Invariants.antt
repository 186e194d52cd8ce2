-- `lines::end_of`: every byte passed is no line feed, so the line ends where it ends from there on.
use Rattle.std.specs.Prelude.{◌≡◌}
use Rattle.lines.specs.Ends.{end_of}
use Rattle.lines.proofs.end_of.Given as goal

abbrev pub invariant-loop-i : goal.invariant-loop-i
invariant-loop-i l = end_of l.piece l.i ≡ end_of l.piece l.from
