-- `verdict::process`.
use Rattle.index.specs.Options.{no_row}
use Rattle.verdict.specs.Verdict.{process_faults}
use Rattle.verdict.proofs.process.Goals as goal

pub returns : goal.returns
unfolding process_faults
returns c = rw (no_row _ c.is_none.ensures c.find-first.ensures.is) at c.note.ensures
