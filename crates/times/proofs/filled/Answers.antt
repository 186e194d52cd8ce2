-- `times::filled`: what is left to fill gives the whole.
use Rattle.std.specs.Prelude.{◌≡◌, ◌-◌, ◌+◌}
use Rattle.common.specs.Words.{suc, arith}
use Rattle.times.specs.Times.{filled}
use Rattle.times.proofs.filled.Goals as goal

pub loop-place-preserved : goal.loop-place-preserved
unfolding filled
loop-place-preserved c =
    let l = c.loop-place in
    let n : c.args.places - l._place ≡ suc (c.args.places - (l._place + 1)) = omega arith in
    (rw c.grown-m.ensures.0 (rw n at l.invariant.0), c.grown-m.ensures.1)

pub returns : goal.returns
unfolding filled
returns c =
    let l = c.loop-place in
    let z : c.args.places - l._place ≡ 0 = omega arith in
    (rw z at l.invariant.0, l.invariant.1)
