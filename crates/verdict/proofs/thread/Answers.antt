-- `verdict::thread`: check after check.
use Rattle.index.specs.Options.{no_value, a_value, this_value}
use Rattle.verdict.specs.Verdict.{thread_faults}
use Rattle.verdict.specs.Laws.{worst_then}
use Rattle.verdict.proofs.thread.Goals as goal

pub returns : goal.returns
unfolding thread_faults
returns c =
    let name = c.cell-name.ensures in
    let typed = rw (c.is_stray.ensures, c.cell.ensures) at c.note-typed.ensures in
    let timed = worst_then _ _ _ typed (rw (no_value _ c.is_none.ensures c.property_of-period.ensures, name) at c.note-timed.ensures) in
    let periodic = worst_then _ _ _ timed (rw (this_value _ 1 c.eq.ensures c.property_of-protocol.ensures, name) at c.note-periodic.ensures) in
    worst_then _ _ _ periodic (rw (a_value _ c.is_some.ensures c.property_of-offset.ensures, name) at c.note.ensures)
