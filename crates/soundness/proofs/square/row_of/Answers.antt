-- `soundness::square::row_of`: the array is made cell by cell.
use Rattle.common.specs.Words.{false, rules}
use Rattle.plan.specs.Square.{cell}
use Rattle.plan.proofs.Made.{made}
use Rattle.soundness.proofs.square.row_of.Goals as goal

pub returns : goal.returns
returns c = made _ _ (cell c.args.sends.now c.args.q) false 16 c.from_fn.ensures.items (λ i y q l k. search rules)
