-- `desk::table::refuse`: the table is empty, and the line of the refusal was written.
use Rattle.desk.specs.Turns.{written}
use Rattle.desk.proofs.table.refuse.Goals as goal

pub returns : goal.returns
returns c = λ m. rw c.new.ensures (written _ m _ _ _ _ c.write_refusal.ensures)
