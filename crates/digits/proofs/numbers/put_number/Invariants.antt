-- `digits::numbers::put_number`: what is left to write leads to the same end.
use Rattle.std.specs.Prelude.{◌≡◌}
use Rattle.common.specs.Words.{length, sets}
use Rattle.digits.specs.Hex.{digits}
use Rattle.digits.specs.Numbers.{in_bytes}
use Rattle.digits.proofs.numbers.put_number.Given as goal

abbrev pub invariant-loop-k : goal.invariant-loop-k
invariant-loop-k l =
    (length l.out ≡ length l.initial.out)
    × (sets l.out l.at (digits (in_bytes l.k l.rest)) ≡ sets l.initial.out l.at (digits (in_bytes l.width l.number)))
