-- `phrases::path`: what is left to pass ends where the whole does.
use Rattle.std.specs.Prelude.{◌≡◌}
use Rattle.steps.specs.Steps.{◌⟫◌, next, many}
use Rattle.steps.specs.Lifted.{lift, size}
use Rattle.phrases.specs.Phrases.{join_kind, joint}
use Rattle.phrases.proofs.path.Given as goal

abbrev pub invariant-loop-w : goal.invariant-loop-w
invariant-loop-w l = lift l.text l.w ⟫ many (λ ts. join_kind (next ts)) joint
    ≡ lift l.text l.initial.w ⟫ many (λ ts. join_kind (next ts)) joint

abbrev pub decreases-loop-w : goal.decreases-loop-w
decreases-loop-w l = size (lift l.text l.w)
