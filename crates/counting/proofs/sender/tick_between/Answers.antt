-- `sender::tick_between`: the loop keeps fewer than n messages up to `early` and n or more up to `late`.
use Rattle.std.specs.Prelude.{◌-◌, ◌≡◌}
use Rattle.common.specs.Words.{arith}
use Rattle.counting.specs.Bounds.{lies_after, tick_of_is}
use Rattle.counting.proofs.sender.tick_between.Goals as goal

pub loop-late-init : goal.loop-late-init
loop-late-init c = (lies_after c.requires.0 c.requires.2 c.requires.3, c.requires.1, c.requires.2, c.requires.3)

pub returns : goal.returns
returns c =
    let l = c.loop-late in
    let e : l.early ≡ l.late - 1 = omega arith in
    rw (tick_of_is c.requires.0 c.args.n.0 l.late (omega arith) l.invariant.1 (rw e at l.invariant.2) l.invariant.3)
