-- `frames::frame::send_in`: the length decides.
use Rattle.common.specs.Tests.{tests}
use Rattle.frames.proofs.frame.send_in.Goals as goal

pub returns-then-bytes-lt-PAYLOAD : goal.returns-then-bytes-lt-PAYLOAD
returns-then-bytes-lt-PAYLOAD c = search tests

pub returns : goal.returns
returns c = rw (c.value_at-queue.ensures, c.value_at-task.ensures, c.value_at.ensures) (search tests)
