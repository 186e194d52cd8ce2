-- `desk::squares::row_of`: the row is made bit by bit.
use Rattle.common.specs.Words.{false, rules}
use Rattle.plan.proofs.Made.{made}
use Rattle.desk.specs.Desk.{bit_of}
use Rattle.desk.proofs.squares.row_of.Goals as goal

pub returns : goal.returns
returns c = made _ _ (bit_of c.args.mask) false 16 c.from_fn.ensures.items (λ i y q l k. search rules)
