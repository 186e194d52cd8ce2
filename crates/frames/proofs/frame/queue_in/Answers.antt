-- `frames::frame::queue_in`: the length decides.
use Rattle.common.specs.Tests.{tests}
use Rattle.frames.proofs.frame.queue_in.Goals as goal

pub returns-then-bytes-ne4 : goal.returns-then-bytes-ne4
returns-then-bytes-ne4 c = search tests

pub returns : goal.returns
returns c = search tests
