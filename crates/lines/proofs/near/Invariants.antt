-- `lines::near`: the loop keeps whether a line feed was among the bytes passed.
use Rattle.std.specs.Prelude.{◌≡◌}
use Rattle.lines.specs.Ends.{feed_in}
use Rattle.lines.proofs.near.Given as goal

abbrev pub invariant-loop-byte : goal.invariant-loop-byte
invariant-loop-byte l = l.seen ≡ feed_in l.piece l.from l.byte-index
