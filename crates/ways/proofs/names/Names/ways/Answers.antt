-- `Names::ways`.
use Rattle.ways.specs.Laws.{known_bounded}
use Rattle.ways.proofs.names.Names.ways.Goals as goal

pub invariant_of-result : goal.invariant_of-result
invariant_of-result c = record { bounded = known_bounded c.args.self.now.known }
