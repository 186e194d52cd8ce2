-- `tables::tabled` puts the columns together.
use Rattle.tables.specs.Table.{tabled}
use Rattle.tables.proofs.tabled.Goals as goal

pub returns : goal.returns
unfolding tabled
returns c =
    rw (
      c.flat_square.ensures,
      c.column-4.ensures,
      c.column-3.ensures,
      c.column-2.ensures,
      c.column.ensures,
    )
