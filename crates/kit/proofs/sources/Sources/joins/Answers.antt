-- `Sources::joins`.
use Rattle.index.specs.Options.{a_row}
use Rattle.kit.specs.Kit.{joins}
use Rattle.kit.proofs.sources.Sources.joins.Goals as goal

pub returns : goal.returns
unfolding joins
returns c =
    let found = a_row _ c.is_some.ensures c.find.ensures.is in
    rw (c.connections.ensures.text, c.connections.ensures.rows, c.cell.ensures, c.cell-2.ensures, c.cell-3.ensures, c.cell-4.ensures) at found
