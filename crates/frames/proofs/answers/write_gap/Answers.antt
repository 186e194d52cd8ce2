-- `frames::answers::write_gap`: a line of three numbers.
use Rattle.common.specs.Words.{arith}
use Rattle.digits.specs.Numbers.{in_bytes}
use Rattle.digits.specs.NumberLaws.{bytes_length}
use Rattle.frames.specs.Answers.{gap_bytes}
use Rattle.frames.specs.Writing.{three}
use Rattle.frames.proofs.answers.write_gap.Goals as goal

pub returns : goal.returns
unfolding gap_bytes
returns c =
    let a = c.args in
    three (in_bytes 1 0x86) (in_bytes 6 a.number.0) (in_bytes 1 a.sender) _ _ _ _ _ 2 14 16 _
    c.put_number.ensures c.put_number-2.ensures c.put_number-3.ensures c.end_line.ensures
    (omega (arith, bytes_length 1 0x86)) (omega (arith, bytes_length 6 a.number.0)) (omega (arith, bytes_length 1 a.sender))
