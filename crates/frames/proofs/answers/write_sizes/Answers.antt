-- `frames::answers::write_sizes`: a line of a number and the sizes.
use Rattle.std.specs.Prelude.{◌+◌, ◌*◌, ◌≡◌, ◌++◌}
use Rattle.common.specs.Words.{length, length-append, arith}
use Rattle.digits.specs.Numbers.{in_bytes}
use Rattle.digits.specs.NumberLaws.{bytes_length}
use Rattle.frames.specs.Answers.{each_size, sizes_bytes}
use Rattle.frames.specs.Writing.{next, ended, sizes_length}
use Rattle.frames.proofs.answers.write_sizes.Goals as goal

pub returns : goal.returns
unfolding sizes_bytes
returns c =
    let n = length c.args.sizes.now in
    let front = in_bytes 1 0x81 in
    let sizes = each_size c.args.sizes.now n in
    let l : length (front ++ sizes) ≡ length front + length sizes = length-append front sizes in
    ended (front ++ sizes) _ _ _ (2 + 4 * n) _
    (next front sizes _ _ _ 2 c.put_number.ensures c.put_sizes.ensures (omega (arith, bytes_length 1 0x81)))
    c.end_line.ensures (omega (arith, bytes_length 1 0x81, sizes_length c.args.sizes.now n))
