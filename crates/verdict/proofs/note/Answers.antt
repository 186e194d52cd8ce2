-- `verdict::note`.
use Rattle.steps.specs.Faults.{worst}
use Rattle.verdict.proofs.note.Goals as goal

pub returns-then-not-wrong : goal.returns-then-not-wrong
unfolding worst
returns-then-not-wrong c = rw c.if-not-wrong.true

pub returns : goal.returns
unfolding worst
returns c = rw (c.worse.ensures, c.if-not-wrong.false)
