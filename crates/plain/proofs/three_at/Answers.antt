-- `plain::three_at`: the first two bytes, then the third.
use Rattle.common.specs.Tests.{tests}
use Rattle.plain.specs.Close.{three_at}
use Rattle.plain.proofs.three_at.Goals as goal

pub returns-then-two_at : goal.returns-then-two_at
returns-then-two_at c =
    rw (three_at c.args.text.now c.args.at c.args.a c.args.b c.args.c, ← c.two_at.ensures, c.if-two_at.true, ← c.byte_at.ensures) (search tests)

pub returns-else-two_at : goal.returns-else-two_at
returns-else-two_at c =
    rw (three_at c.args.text.now c.args.at c.args.a c.args.b c.args.c, ← c.two_at.ensures, c.if-two_at.false) (search tests)
