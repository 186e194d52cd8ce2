-- `copy`: the bytes that were copied stand in the memory.
use Rattle.std.specs.Prelude.{◌≡◌, ◌+◌, ◌-◌}
use Rattle.common.specs.Words.{length, arith}
use Rattle.slots.specs.SlotLaws.{put_sets}
use Rattle.slots.proofs.copy.Goals as goal

pub returns : goal.returns
returns c =
    let e : c.args.at + length c.args.from.now - c.args.at ≡ length c.args.from.now = omega arith in
    rw (e, c.copy_from_slice.ensures.after) (put_sets c.args.memory.now c.args.from.now c.args.at c.requires)
