-- `Types::first_on_way`: what is left of the way has what the whole has.
use Rattle.common.specs.Words.{arith, refl, ◌∙◌}
use Rattle.ways.specs.Laws.{left_none, left_over, left_here, left_on}
use Rattle.ways.proofs.types.Types.first_on_way.Goals as goal

pub loop-turn-init : goal.loop-turn-init
loop-turn-init g c = (c.requires.within, λ h k. record { same = refl })

pub returns-in_err-j : goal.returns-in_err-j
returns-in_err-j g c h k = c.from_residual.ensures ∙ left_none (c.loop-turn.invariant.1 h k) c.in_err-j.was

pub returns-in-Some : goal.returns-in-Some
returns-in-Some g c h k =
    left_here (c.loop-turn.invariant.1 h k) c.in_ok-j.was (omega arith) (k _ (rw c.in_ok-j.was at c.loop-turn.invariant.0) _ c.in-Some.ensures)

pub loop-turn-preserved : goal.loop-turn-preserved
loop-turn-preserved g c = (
  c.above-next.ensures.within,
  λ h k. rw c.above-next.ensures.is (left_on (c.loop-turn.invariant.1 h k) c.in_ok-j.was (omega arith)
      (k _ (rw c.in_ok-j.was at c.loop-turn.invariant.0) _ c.in_default.ensures) (omega arith)),
)

pub returns : goal.returns
returns g c h k = left_over (c.loop-turn.invariant.1 h k) (omega arith)
