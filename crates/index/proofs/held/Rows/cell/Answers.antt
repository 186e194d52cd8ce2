-- `Rows::cell`.
use Rattle.index.specs.Laws.{row_in}
use Rattle.index.proofs.held.Rows.cell.Goals as goal

pub returns : goal.returns
returns c = rw (row_in c.args.self.now.count c.args.self.now.memory.now c.args.k c.requires.0) c.column.ensures
