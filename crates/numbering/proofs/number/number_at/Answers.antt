-- `number::number_at`: equation 2 at the job's deadline.
use Rattle.model.specs.Model.{number}
use Rattle.numbering.proofs.number.number_at.Goals as goal

pub returns : goal.returns
unfolding number
returns c = rw (c.number_due.ensures, c.deadline_of-at.ensures)
