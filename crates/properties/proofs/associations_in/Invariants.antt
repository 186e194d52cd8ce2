-- `properties::associations_in`: what is left to read says what the whole does.
use Rattle.std.specs.Prelude.{◌≡◌}
use Rattle.common.specs.Words.{ℕ, List}
use Rattle.steps.specs.Steps.{named}
use Rattle.steps.specs.Lifted.{lift, size}
use Rattle.rows.specs.Said.{repeat}
use Rattle.rows.specs.States.{state_of, does}
use Rattle.properties.specs.Properties.{association_in}
use Rattle.properties.proofs.associations_in.Given as goal

abbrev pub invariant-loop-of : goal.invariant-loop-of
invariant-loop-of l = (m : List ℕ) → does (state_of l.text l.r m) (repeat named (association_in l.of))
    ≡ does (state_of l.text l.initial.r m) (repeat named (association_in l.of))

abbrev pub decreases-loop-of : goal.decreases-loop-of
decreases-loop-of l = size (lift l.text l.r.went)
