-- `store`: the number's run of bytes and the payload's behind it are one run.
use Rattle.std.specs.Prelude.{◌*◌}
use Rattle.common.specs.Words.{rules}
use Rattle.common.specs.Stores.{sets_append}
use Rattle.slots.specs.Slots.{stored, bytes_of}
use Rattle.slots.specs.SlotLaws.{bytes_length}
use Rattle.slots.proofs.store.Goals as goal

pub returns : goal.returns
unfolding stored
returns c =
    let d = c in
    let b = d in
    let a = b.args in
    rw (c.copy-2.ensures, d.copy.ensures, b.bytes_of-digits.ensures)
    (search (rules, rw (bytes_length a.number.0) at (sets_append (bytes_of a.number.0) a.payload.now a.memory.now (a.slot.0 * 32))))
