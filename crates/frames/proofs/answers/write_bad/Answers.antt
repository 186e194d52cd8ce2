-- `frames::answers::write_bad`: a line of one number.
use Rattle.common.specs.Words.{arith}
use Rattle.digits.specs.Numbers.{in_bytes}
use Rattle.digits.specs.NumberLaws.{bytes_length}
use Rattle.frames.specs.Answers.{bad_bytes}
use Rattle.frames.specs.Writing.{ended}
use Rattle.frames.proofs.answers.write_bad.Goals as goal

pub returns : goal.returns
unfolding bad_bytes
returns c =
    ended (in_bytes 3 0x7ff000) _ _ _ 6 _ c.put_number.ensures c.end_line.ensures (omega (arith, bytes_length 3 0x7ff000))
