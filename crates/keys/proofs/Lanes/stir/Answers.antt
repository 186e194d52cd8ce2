-- `Lanes::stir`: each lane with the other.
use Rattle.keys.specs.Keys.{stirred}
use Rattle.keys.proofs.Lanes.stir.Goals as goal

pub returns : goal.returns
unfolding stirred
returns c = (rw (c.turn-2.ensures.0, c.turn.ensures.0), (c.turn.ensures.1, c.turn-2.ensures.1))
