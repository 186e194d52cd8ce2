-- `steps::start_of`.
use Rattle.steps.proofs.start_of.Goals as goal

pub returns : goal.returns
returns c = rw (c.in-Ok.is, c.spot_at.ensures.tokens)
