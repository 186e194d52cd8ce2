-- `steps::stop`.
use Rattle.steps.proofs.stop.Goals as goal

pub returns : goal.returns
returns c = rw (c.in_ok-at.was, c.spot_at.ensures.tokens)
