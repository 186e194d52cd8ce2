-- `window_of`: what the tests leave is what the inner functions ask for.
use Rattle.common.specs.Words.{sym, ◌∙◌, ltb-false}
use Rattle.lookups.proofs.Counted.{counted}
use Rattle.lookups.proofs.window_of.Goals as goal

pub release_past-requires : goal.release_past-requires
release_past-requires c = counted _ _ c.judge_queue.ensures c.in_ok-judge_queue.was

pub first_number-first-requires : goal.first_number-first-requires
first_number-first-requires c =
    (counted _ _ c.judge_queue.ensures c.in_ok-judge_queue.was, ltb-false _ _ (sym c.release_past.ensures ∙ c.if-release_past.false))

pub last_number-last-requires : goal.last_number-last-requires
last_number-last-requires c =
    (counted _ _ c.judge_queue.ensures c.in_ok-judge_queue.was, ltb-false _ _ (sym c.release_past.ensures ∙ c.if-release_past.false))
