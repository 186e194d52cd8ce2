-- `verdict::again`: where the row has a name.
use Rattle.common.specs.Words.{eq-eqb, ne_eqb}
use Rattle.verdict.specs.Verdict.{again_faults}
use Rattle.verdict.specs.Laws.{worst_none}
use Rattle.verdict.proofs.again.Goals as goal

pub returns-then-name-eq0 : goal.returns-then-name-eq0
unfolding again_faults
returns-then-name-eq0 c = rw (← c.cell-name.ensures, eq-eqb c.cell-name.result 0 c.if-name-eq0.true) (worst_none _)

pub returns : goal.returns
unfolding again_faults
returns c = rw (← c.is_first.ensures, ← c.cell-name.ensures, ne_eqb c.cell-name.result 0 c.if-name-eq0.false) c.note.ensures
