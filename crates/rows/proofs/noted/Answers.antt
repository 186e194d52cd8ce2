-- `rows::noted`.
use Rattle.rows.proofs.noted.Goals as goal

pub returns : goal.returns
returns c = rw c.worse.ensures
