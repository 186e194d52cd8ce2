-- `way_back`: what the tests leave is what the inner functions ask for.
use Rattle.common.specs.Words.{pos_of_ne-zero, arith}
use Rattle.counting.specs.Lent.{lent}
use Rattle.lookups.proofs.Counted.{counted}
use Rattle.lookups.proofs.way_back.Goals as goal

pub up_to-requires : goal.up_to-requires
up_to-requires c = (lent _ _ (counted _ _ c.judge_queue.ensures c.in_ok-judge_queue.was), omega arith)

pub origin_of-requires : goal.origin_of-requires
origin_of-requires c = (
  counted _ _ c.judge_queue.ensures c.in_ok-judge_queue.was,
  pos_of_ne-zero c.if-n-eq0.false,
  rw c.up_to.ensures at c.if-up_to-n.false,
)
