-- `trial::play`: what is lent lies inside the buffer.
use Rattle.std.proofs.Common.{length, ◌≤◌}
use Rattle.trial.proofs.play.Given as goal

abbrev pub invariant-loop-piece : goal.invariant-loop-piece
invariant-loop-piece l = l.lent ≤ length l.buffer
