-- `sender::due_at`: a task that sends is asked for its deadline.
use Rattle.model.specs.Model.{due_at}
use Rattle.counting.specs.Bounds.{row_positive}
use Rattle.counting.proofs.sender.due_at.Goals as goal

pub has_deadline-requires : goal.has_deadline-requires
has_deadline-requires c = row_positive c.requires.0 c.args.row c.requires.1

pub returns-then-plan-queue : goal.returns-then-plan-queue
unfolding due_at
returns-then-plan-queue c = rw (c.if-plan-queue.true, c.has_deadline.ensures)

pub returns-else-plan-queue : goal.returns-else-plan-queue
unfolding due_at
returns-else-plan-queue c = rw c.if-plan-queue.false
