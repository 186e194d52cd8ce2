-- `digits::numbers::value_at`: a turn takes in one byte more, and the number stays below 256 to the bytes read.
use Rattle.std.specs.Prelude.{◌^◌, ◌<◌, ◌≡◌}
use Rattle.digits.specs.Numbers.{value_at}
use Rattle.digits.proofs.numbers.value_at.Given as goal

abbrev pub invariant-loop-byte : goal.invariant-loop-byte
invariant-loop-byte l = (l.n ≡ value_at l.bytes l.at l.byte-index) × (l.n < 256 ^ l.byte-index)
