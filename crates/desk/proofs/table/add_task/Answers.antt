-- `desk::table::add_task`: by whether the table takes a row more.
use Rattle.common.specs.Words.{refl}
use Rattle.common.specs.Tests.{as_tested}
use Rattle.desk.specs.Desk.{with_task}
use Rattle.desk.specs.Turns.{row_refused, row_added, written}
use Rattle.desk.proofs.table.add_task.Goals as goal

pub returns-then-not-takes_row : goal.returns-then-not-takes_row
returns-then-not-takes_row c =
    λ m. rw (row_refused c.args.desk.now m _ _ (as_tested c.takes_row.ensures c.if-not-takes_row.true)) (written _ m _ _ _ _ c.write_bad.ensures)

pub returns : goal.returns
unfolding with_task
returns c = λ m. rw (row_added c.args.desk.now m _ _ (as_tested c.takes_row.ensures c.if-not-takes_row.false)) (refl, refl, refl, refl)
