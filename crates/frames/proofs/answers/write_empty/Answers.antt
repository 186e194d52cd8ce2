-- `frames::answers::write_empty`: a line of one number.
use Rattle.common.specs.Words.{arith}
use Rattle.digits.specs.Numbers.{in_bytes}
use Rattle.digits.specs.NumberLaws.{bytes_length}
use Rattle.frames.specs.Answers.{empty_bytes}
use Rattle.frames.specs.Writing.{ended}
use Rattle.frames.proofs.answers.write_empty.Goals as goal

pub returns : goal.returns
unfolding empty_bytes
returns c =
    ended (in_bytes 1 0x87) _ _ _ 2 _ c.put_number.ensures c.end_line.ensures (omega (arith, bytes_length 1 0x87))
