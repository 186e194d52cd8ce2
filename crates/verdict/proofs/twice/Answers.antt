-- `verdict::twice`.
use Rattle.verdict.specs.Verdict.{twice_faults}
use Rattle.verdict.proofs.twice.Goals as goal

pub returns : goal.returns
unfolding twice_faults
returns c = rw (c.is_first.ensures, c.cell-place.ensures) at c.note.ensures
