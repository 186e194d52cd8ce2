-- `digits::hex::put_bytes`: a turn writes the digits of one byte more.
use Rattle.std.specs.Prelude.{◌≡◌}
use Rattle.common.specs.Words.{length, take, sets}
use Rattle.digits.specs.Hex.{digits}
use Rattle.digits.proofs.hex.put_bytes.Given as goal

abbrev pub invariant-loop-k : goal.invariant-loop-k
invariant-loop-k l =
    (length l.out ≡ length l.initial.out) × (l.out ≡ sets l.initial.out l.at (digits (take l.k l.bytes)))
