-- `Names::property_of`: what the thread or its implementation has, or else the way along its types.
use Rattle.ways.specs.Options.{property_said}
use Rattle.ways.specs.Laws.{known_from}
use Rattle.ways.proofs.names.Names.property_of.Goals as goal

pub returns-in-Some : goal.returns-in-Some
returns-in-Some c = rw (property_said, ← c.in-Some.ensures)

pub returns : goal.returns
returns c =
    rw (property_said, ← c.in_default.ensures)
    (rw (c.ways.ensures.rows, c.ways.ensures.above, known_from c.args.self.now.known c.requires.0 c.above.ensures.is) at c.value_on_way.ensures)
