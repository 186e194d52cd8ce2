-- `index::column`.
use Rattle.common.specs.Words.{rules, sym}
use Rattle.index.specs.Laws.{column_at}
use Rattle.index.proofs.column.Goals as goal

pub returns : goal.returns
returns c = let a = c.args in sym (column_at a.rows.now a.k a.c (search rules))
