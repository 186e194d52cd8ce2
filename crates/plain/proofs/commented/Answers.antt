-- `plain::commented`: at the line's end and before it.
use Rattle.common.specs.Words.{arith, true, refl, sym}
use Rattle.plain.specs.Close.{step_line, step_comment}
use Rattle.plain.proofs.commented.Goals as goal

pub returns-then-byte-eq10 : goal.returns-then-byte-eq10
returns-then-byte-eq10 c bs = sym (step_line c.args.byte bs true 0 (omega arith) refl c.if-byte-eq10.true)

pub returns : goal.returns
returns c bs = sym (step_comment c.args.byte bs true 0 (omega arith) refl c.if-byte-eq10.false)
