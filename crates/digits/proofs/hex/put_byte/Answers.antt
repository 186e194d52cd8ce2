-- `digits::hex::put_byte`: two stores are a run of two.
use Rattle.common.specs.Words.{arith, add-one, length-set}
use Rattle.digits.specs.Hex.{digits}
use Rattle.digits.proofs.hex.put_byte.Goals as goal

pub bounds-out-at-2 : goal.bounds-out-at-2
bounds-out-at-2 c = simp length-set (omega arith)

pub returns : goal.returns
unfolding digits
returns c = rw (c.letter_of.ensures, c.letter_of-2.ensures, add-one)
