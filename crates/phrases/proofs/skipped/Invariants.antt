-- `phrases::skipped`: what is left to pass ends where the whole does.
use Rattle.std.specs.Prelude.{◌≡◌}
use Rattle.steps.specs.Steps.{◌⟫◌, next, any, many}
use Rattle.steps.specs.Lifted.{lift, size}
use Rattle.phrases.specs.Phrases.{skip_kind}
use Rattle.phrases.proofs.skipped.Given as goal

abbrev pub invariant-loop-w : goal.invariant-loop-w
invariant-loop-w l = lift l.text l.w ⟫ many (λ ts. skip_kind (next ts)) any ≡ lift l.text l.initial.w ⟫ many (λ ts. skip_kind (next ts)) any

abbrev pub decreases-loop-w : goal.decreases-loop-w
decreases-loop-w l = size (lift l.text l.w)
