-- `Names::way_ends`.
use Rattle.ways.specs.Ways.{ends_of}
use Rattle.ways.specs.Laws.{known_from}
use Rattle.ways.proofs.names.Names.way_ends.Goals as goal

pub returns : goal.returns
unfolding ends_of
returns c =
    rw (c.ways.ensures.rows, c.ways.ensures.above, known_from c.args.self.now.known c.requires c.above.ensures.is) at c.way_ends.ensures
