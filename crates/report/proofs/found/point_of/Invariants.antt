-- `report::found::point_of`: a turn goes past one byte more.
use Rattle.std.specs.Prelude.{◌≡◌}
use Rattle.common.specs.Words.{take}
use Rattle.report.specs.Places.{point_of}
use Rattle.report.proofs.found.point_of.Given as goal

abbrev pub invariant-loop-byte : goal.invariant-loop-byte
invariant-loop-byte l = l.point ≡ point_of (take l.byte-index l.before)
