-- `digits::hex::value_of`: a decimal digit, a letter, or neither.
use Rattle.common.specs.Words.{arith, ◌∙◌}
use Rattle.digits.specs.HexLaws.{digit_decimal, digit_letter, digit_none}
use Rattle.digits.proofs.hex.value_of.Goals as goal
use Rattle.digits.proofs.hex.value_of.Goals.{then-letter-lt6, else-letter-lt6}

pub returns-then-decimal-lt10 : goal.returns-then-decimal-lt10
returns-then-decimal-lt10 c = digit_decimal c.args.c _ (omega arith) c.if-decimal-lt10.true

pub returns-else-decimal-lt10 : goal.returns-else-decimal-lt10
returns-else-decimal-lt10 c =
    elim c.if-letter-lt6.branch [
      | then-letter-lt6 w ↦ w.other-is ∙ digit_letter c.args.c _ (omega arith) w.if-letter-lt6.true
      | else-letter-lt6 w ↦ w.other-is ∙ digit_none c.args.c _ _ (omega arith) (omega arith) c.if-decimal-lt10.false (omega arith)
          w.if-letter-lt6.false (omega arith)
    ]
