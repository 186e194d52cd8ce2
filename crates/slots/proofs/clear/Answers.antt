-- `clear`: the bytes that were filled, and the rest as it was.
use Rattle.std.specs.Prelude.{◌≡◌, ◌*◌}
use Rattle.common.specs.Words.{rules, length, take, length-take-le}
use Rattle.slots.specs.Slots.{cleared}
use Rattle.slots.proofs.clear.Goals as goal

pub returns : goal.returns
unfolding cleared
returns c =
    let n : length (take (c.args.slots * 32) c.args.memory.now) ≡ c.args.slots * 32 = length-take-le _ c.args.memory.now (search rules) in
    rw (c.fill.ensures.after (λ y h. search rules), n)
