-- `frames::frame::go_in`: the length decides.
use Rattle.common.specs.Tests.{tests}
use Rattle.frames.proofs.frame.go_in.Goals as goal

pub returns-then-bytes-ne1 : goal.returns-then-bytes-ne1
returns-then-bytes-ne1 c = search tests

pub returns : goal.returns
returns c = search tests
