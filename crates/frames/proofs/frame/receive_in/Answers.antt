-- `frames::frame::receive_in`: the length decides.
use Rattle.common.specs.Tests.{tests}
use Rattle.frames.proofs.frame.receive_in.Goals as goal

pub returns-then-bytes-ne7 : goal.returns-then-bytes-ne7
returns-then-bytes-ne7 c = search tests

pub returns : goal.returns
returns c = rw (c.value_at-queue.ensures, c.value_at.ensures) (search tests)
