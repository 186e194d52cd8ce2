-- `frames::answers::write_message`: a line of two numbers and the payload.
use Rattle.std.specs.Prelude.{◌+◌, ◌*◌}
use Rattle.common.specs.Words.{arith, length}
use Rattle.digits.specs.Numbers.{in_bytes}
use Rattle.digits.specs.NumberLaws.{bytes_length}
use Rattle.frames.specs.Answers.{message_bytes}
use Rattle.frames.specs.Writing.{three}
use Rattle.frames.proofs.answers.write_message.Goals as goal

pub returns : goal.returns
unfolding message_bytes
returns c =
    let a = c.args in
    three (in_bytes 1 0x85) (in_bytes 6 a.number.0) a.payload.now _ _ _ _ _ 2 14 (14 + 2 * length a.payload.now) _
    c.put_number.ensures c.put_number-2.ensures c.put_bytes.ensures c.end_line.ensures
    (omega (arith, bytes_length 1 0x85)) (omega (arith, bytes_length 6 a.number.0)) (omega arith)
