-- `planning::refused`: the plan beside a refusal is that of all zeros.
use Rattle.planning.proofs.refused.Goals as goal

pub returns : goal.returns
returns c = rw c.zeros.ensures
