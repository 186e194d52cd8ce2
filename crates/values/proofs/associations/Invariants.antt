-- `values::associations`: what is left to pass ends where the whole does.
use Rattle.std.specs.Prelude.{◌≡◌}
use Rattle.steps.specs.Steps.{◌⟫◌, named, many}
use Rattle.steps.specs.Lifted.{lift, size}
use Rattle.values.specs.Values.{association}
use Rattle.values.proofs.associations.Given as goal

abbrev pub invariant-loop-w : goal.invariant-loop-w
invariant-loop-w l = lift l.text l.w ⟫ many named association ≡ lift l.text l.initial.w ⟫ many named association

abbrev pub decreases-loop-w : goal.decreases-loop-w
decreases-loop-w l = size (lift l.text l.w)
