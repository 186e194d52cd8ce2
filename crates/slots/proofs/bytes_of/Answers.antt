-- `bytes_of`: the library's bytes are the definition's.
use Rattle.slots.specs.Slots.{bytes_of}
use Rattle.slots.proofs.bytes_of.Goals as goal

pub returns : goal.returns
unfolding bytes_of
returns c = c.to_be_bytes.ensures
