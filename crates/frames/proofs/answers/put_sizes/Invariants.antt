-- `frames::answers::put_sizes`: a turn writes one size more.
use Rattle.std.specs.Prelude.{◌≡◌}
use Rattle.common.specs.Words.{length, sets}
use Rattle.digits.specs.Hex.{digits}
use Rattle.frames.specs.Answers.{each_size}
use Rattle.frames.proofs.answers.put_sizes.Given as goal

abbrev pub invariant-loop-q : goal.invariant-loop-q
invariant-loop-q l = (length l.out ≡ length l.initial.out) × (l.out ≡ sets l.initial.out 2 (digits (each_size l.sizes l.q)))
