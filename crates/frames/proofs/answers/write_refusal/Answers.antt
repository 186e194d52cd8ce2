-- `frames::answers::write_refusal`: a line of three numbers.
use Rattle.std.specs.Prelude.{◌≡◌}
use Rattle.common.specs.Words.{arith, ◌∙◌}
use Rattle.plan.specs.Refusals.{number_of}
use Rattle.digits.specs.Numbers.{in_bytes}
use Rattle.digits.specs.NumberLaws.{bytes_length}
use Rattle.frames.specs.Answers.{refusal_bytes}
use Rattle.frames.specs.Writing.{three}
use Rattle.frames.proofs.answers.write_refusal.Goals as goal

pub returns : goal.returns
unfolding refusal_bytes
returns c =
    let rule = number_of c.args.refusal.rule in
    let row = c.args.refusal.row in
    let e : c.from-2.result ≡ rule = c.from-2.ensures ∙ c.from.ensures in
    three (in_bytes 1 0x7f) (in_bytes 1 rule) (in_bytes 1 row) _ _ _ _ _ 2 4 6 _
    c.put_number.ensures (rw e at c.put_number-2.ensures) c.put_number-3.ensures c.end_line.ensures
    (omega (arith, bytes_length 1 0x7f)) (omega (arith, bytes_length 1 rule)) (omega (arith, bytes_length 1 row))
