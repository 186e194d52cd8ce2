-- `verdict::row`: by what the row is.
use Rattle.common.specs.Words.{eq-eqb, ne_eqb}
use Rattle.rows.specs.Rows.{a_thread, a_link}
use Rattle.verdict.specs.Verdict.{row_faults}
use Rattle.verdict.specs.Laws.{worst_none, worst_then}
use Rattle.verdict.proofs.row.Goals as goal

pub returns-then-sort : goal.returns-then-sort
unfolding row_faults
returns-then-sort c =
    rw (← c.cell-sort.ensures, eq-eqb c.cell-sort.result a_thread c.if-sort.true)
    (worst_then _ _ _ c.again-once.ensures c.thread.ensures)

pub returns-then-sort-2 : goal.returns-then-sort-2
unfolding row_faults
returns-then-sort-2 c =
    rw (
      ← c.cell-sort.ensures,
      ne_eqb c.cell-sort.result a_thread c.if-sort.false,
      eq-eqb c.cell-sort.result a_link c.if-sort-2.true,
    )
    (worst_then _ _ _ c.again-once.ensures c.link.ensures)

pub returns : goal.returns
unfolding row_faults
returns c =
    rw (
      ← c.cell-sort.ensures,
      ne_eqb c.cell-sort.result a_thread c.if-sort.false,
      ne_eqb c.cell-sort.result a_link c.if-sort-2.false,
    )
    (worst_then _ _ _ c.again-once.ensures (worst_none c.again-once.result))
