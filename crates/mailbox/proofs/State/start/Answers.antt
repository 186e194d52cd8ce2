-- `State::start`: the answer, beside the fresh state.
use Rattle.common.specs.Words.{refl}
use Rattle.mailbox.proofs.State.start.Goals as goal

pub returns : goal.returns
returns c =
    rw (c.fresh.ensures, c.started.ensures.0) (refl, c.started.ensures.1)
