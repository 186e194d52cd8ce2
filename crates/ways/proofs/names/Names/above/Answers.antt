-- `Names::above`.
use Rattle.common.specs.Words.{ap, ◌∙◌}
use Rattle.index.specs.Options.{row_of}
use Rattle.ways.specs.Laws.{known_bounded}
use Rattle.ways.proofs.names.Names.above.Goals as goal

pub above-requires : goal.above-requires
above-requires c = (known_bounded c.args.self.now.known, c.requires)

pub returns-clause-is : goal.returns-clause-is
returns-clause-is c = c.above.ensures.is ∙ ap row_of (c.args.self.now.known.typed c.args.k c.requires)
