-- `frames::frame::frame_of`: the first byte decides.
use Rattle.common.specs.Tests.{tests}
use Rattle.frames.specs.Frames.{frame_of}
use Rattle.frames.proofs.frame.frame_of.Goals as goal

pub returns-then-is_empty : goal.returns-then-is_empty
unfolding frame_of
returns-then-is_empty c = search tests

pub returns-in-1 : goal.returns-in-1
unfolding frame_of
returns-in-1 c = search tests

pub returns-in-2 : goal.returns-in-2
unfolding frame_of
returns-in-2 c = search tests

pub returns-in-3 : goal.returns-in-3
unfolding frame_of
returns-in-3 c = search tests

pub returns-in-4 : goal.returns-in-4
unfolding frame_of
returns-in-4 c = search tests

pub returns-in-5 : goal.returns-in-5
unfolding frame_of
returns-in-5 c = search tests

pub returns-in_default : goal.returns-in_default
unfolding frame_of
returns-in_default c = search tests
