-- `times::sum_of`: the sum of what is left, from the sum so far, is the whole.
use Rattle.std.specs.Prelude.{◌≡◌, ◌≤◌}
use Rattle.common.specs.Words.{drop}
use Rattle.times.specs.Times.{with_bytes, most}
use Rattle.times.specs.Sums.{grown, counted}
use Rattle.times.proofs.sum_of.Given as goal

abbrev pub invariant-loop-byte : goal.invariant-loop-byte
invariant-loop-byte l = (with_bytes grown l.s (drop l.byte-index l.number) ≡ counted l.number l.places) × (l.s.ticks ≤ most)
