-- `places::slot_for`: a slot within the queue is below its size, so the sum fits.
use Rattle.common.specs.Words.{mod-lt, arith}
use Rattle.slots.proofs.places.slot_for.Goals as goal

pub overflow_add-result : goal.overflow_add-result
overflow_add-result c =
    let k = c in
    rw c.slot_in-within.ensures (omega (arith, k.requires.1, mod-lt k.args.number.0 k.requires.0))

pub returns : goal.returns
returns c = rw c.slot_in-within.ensures
