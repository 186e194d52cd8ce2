-- `steps::next`.
use Rattle.steps.proofs.next.Goals as goal

pub returns : goal.returns
returns c = rw (c.in-Ok.is, c.spot_at.ensures.tokens)
