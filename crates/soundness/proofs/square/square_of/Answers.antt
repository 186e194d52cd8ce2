-- `soundness::square::square_of`: the array is made row by row.
use Rattle.common.specs.Words.{[], rules}
use Rattle.plan.specs.Square.{row_of}
use Rattle.plan.proofs.Made.{made}
use Rattle.soundness.proofs.square.square_of.Goals as goal

pub returns : goal.returns
returns c = made _ _ (row_of c.args.sends.now) [] 8 c.from_fn.ensures.items (λ q y f l k. search rules)
