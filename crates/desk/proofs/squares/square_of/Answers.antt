-- `desk::squares::square_of`: the square is made row by row.
use Rattle.common.specs.Words.{ℕ, [], get_or, rules}
use Rattle.plan.proofs.Made.{made}
use Rattle.desk.specs.Desk.{row_of}
use Rattle.desk.proofs.squares.square_of.Goals as goal

pub returns : goal.returns
returns c = made _ _ (λ (q : ℕ). row_of (get_or c.args.masks.now q 0)) [] 8 c.from_fn.ensures.items (λ q y f l k. search rules)
