-- `desk::table::plan_of`: planning on the square of the masks.
use Rattle.desk.specs.Desk.{planned}
use Rattle.desk.proofs.table.plan_of.Goals as goal

pub returns : goal.returns
unfolding planned
returns c = rw (← c.square_of.ensures) c.make_plan.ensures
