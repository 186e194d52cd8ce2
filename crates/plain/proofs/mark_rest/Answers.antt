-- `plain::mark_rest`.
use Rattle.plain.specs.Plain.{mark_rest}
use Rattle.plain.proofs.mark_rest.Goals as goal

pub returns-then-three_at : goal.returns-then-three_at
unfolding mark_rest
returns-then-three_at c = rw (← c.three_at.ensures, c.if-three_at.true)

pub returns-else-three_at : goal.returns-else-three_at
unfolding mark_rest
returns-else-three_at c = rw (← c.three_at.ensures, c.if-three_at.false)
