-- `digits::hex::decode_pairs`: a turn decodes one pair more.
use Rattle.digits.specs.HexLaws.{Passed}
use Rattle.digits.proofs.hex.decode_pairs.Given as goal

abbrev pub invariant-loop-k : goal.invariant-loop-k
invariant-loop-k l = Passed l.line l.initial.bytes l.k l.bytes l.bits
