-- `number::last_number`: the messages up to the job's release.
use Rattle.model.specs.Model.{last}
use Rattle.numbering.proofs.number.last_number.Goals as goal

pub returns : goal.returns
unfolding last
returns c = rw (c.up_to.ensures, c.release_of-at.ensures)
