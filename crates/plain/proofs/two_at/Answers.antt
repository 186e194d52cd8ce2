-- `plain::two_at`: by the first byte, then by the second.
use Rattle.common.specs.Tests.{tests}
use Rattle.plain.specs.Close.{two_at}
use Rattle.plain.proofs.two_at.Goals as goal

pub returns-then-byte_at-a : goal.returns-then-byte_at-a
returns-then-byte_at-a c =
    rw (two_at c.args.text.now c.args.at c.args.a c.args.b, ← c.byte_at.ensures, ← c.byte_at-then-byte_at-a.ensures) (search tests)

pub returns-else-byte_at-a : goal.returns-else-byte_at-a
returns-else-byte_at-a c = rw (two_at c.args.text.now c.args.at c.args.a c.args.b, ← c.byte_at.ensures) (search tests)
