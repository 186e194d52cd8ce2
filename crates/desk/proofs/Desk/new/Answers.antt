-- `desk::Desk::new`: the plan of all zeros and the fresh state are what their makers say.
use Rattle.desk.proofs.Desk.new.Goals as goal

pub returns : goal.returns
returns c = rw (c.zeros.ensures, c.fresh.ensures)
