-- `sending::running_number`: equation 2 at the running job's deadline.
use Rattle.model.specs.Model.{number}
use Rattle.sending.proofs.running_number.Goals as goal

pub returns : goal.returns
unfolding number
returns c = rw (c.number_due.ensures, c.deadline_of-due.ensures, c.job_at-job.ensures)
