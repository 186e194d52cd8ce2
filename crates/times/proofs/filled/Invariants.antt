-- `times::filled`: what is left to fill gives the whole.
use Rattle.std.specs.Prelude.{◌≡◌, ◌-◌, ◌≤◌}
use Rattle.times.specs.Times.{filled, most}
use Rattle.times.specs.Sums.{grown}
use Rattle.times.proofs.filled.Given as goal

abbrev pub invariant-loop-place : goal.invariant-loop-place
invariant-loop-place l = (filled grown l.m (l.places - l._place) ≡ filled grown l.n l.places) × (l.m ≤ most)
