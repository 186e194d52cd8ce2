-- `phrases::scopes`: what is left to pass ends where the whole does.
use Rattle.std.specs.Prelude.{◌≡◌}
use Rattle.steps.specs.Steps.{◌⟫◌, many}
use Rattle.steps.specs.Lifted.{lift, size}
use Rattle.phrases.specs.Phrases.{begins_scope, scope}
use Rattle.phrases.proofs.scopes.Given as goal

abbrev pub invariant-loop-w : goal.invariant-loop-w
invariant-loop-w l = lift l.text l.w ⟫ many begins_scope scope ≡ lift l.text l.initial.w ⟫ many begins_scope scope

abbrev pub decreases-loop-w : goal.decreases-loop-w
decreases-loop-w l = size (lift l.text l.w)
