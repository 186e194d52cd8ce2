-- `values::scoped`: what is left to pass ends where the whole does.
use Rattle.std.specs.Prelude.{◌≡◌}
use Rattle.words.specs.Kinds.{SCOPE}
use Rattle.steps.specs.Steps.{◌⟫◌, is, many}
use Rattle.steps.specs.Lifted.{lift, size}
use Rattle.values.specs.Values.{inner}
use Rattle.values.proofs.scoped.Given as goal

abbrev pub invariant-loop-w : goal.invariant-loop-w
invariant-loop-w l = lift l.text l.w ⟫ many (is SCOPE) inner ≡ lift l.text l.initial.w ⟫ many (is SCOPE) inner

abbrev pub decreases-loop-w : goal.decreases-loop-w
decreases-loop-w l = size (lift l.text l.w)
