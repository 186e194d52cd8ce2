-- The rows that are held in memory.
use Rattle.common.specs.Words.{List}
use Rattle.rows.specs.Rows.{Row}
use Rattle.index.specs.declared.held.Rows.{Rows}
use Rattle.index.specs.Index.{rows_in}

abbrev pub rows_of : Rows → List Row
rows_of r = rows_in r.count r.memory.now
