-- `plain::begun`: a comment, a string, an annex or a byte by itself.
use Rattle.common.specs.Words.{rules}
use Rattle.common.specs.Tests.{tests}
use Rattle.plain.specs.Plain.{begun}
use Rattle.plain.specs.Close.{front}
use Rattle.plain.proofs.begun.Goals as goal

pub returns-then-two_at : goal.returns-then-two_at
unfolding begun
returns-then-two_at c = rw (← front c.args.text.now c.args.at (search rules), ← c.two_at.ensures, c.if-two_at.true)

pub returns-then-b-eq34 : goal.returns-then-b-eq34
unfolding begun
returns-then-b-eq34 c =
    rw (← front c.args.text.now c.args.at (search rules), ← c.two_at.ensures, c.if-two_at.false, ← c.string_rest.ensures) (search tests)

pub returns-then-b-eq123 : goal.returns-then-b-eq123
unfolding begun
returns-then-b-eq123 c =
    rw (← front c.args.text.now c.args.at (search rules), ← c.two_at.ensures, c.if-two_at.false)
    (rw (← c.annex_rest-annexed.ensures, c.brace.ensures) (search tests))

pub returns : goal.returns
unfolding begun
returns c =
    rw (← front c.args.text.now c.args.at (search rules), ← c.two_at.ensures, c.if-two_at.false, c.lower.ensures) (search tests)
