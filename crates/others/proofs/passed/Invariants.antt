-- `others::passed`: what is left to pass says what the whole does, with the least of the words that wait.
use Rattle.std.specs.Prelude.{◌≡◌}
use Rattle.common.specs.Words.{ℕ, List, []}
use Rattle.steps.specs.declared.faults.Fault.{Fault}
use Rattle.steps.specs.Faults.{no_fault, worst}
use Rattle.steps.specs.Lifted.{lift, size}
use Rattle.rows.specs.States.{state_of, does}
use Rattle.others.specs.Others.{passing}
use Rattle.others.proofs.passed.Given as goal

abbrev pub invariant-loop-waiting : goal.invariant-loop-waiting
invariant-loop-waiting l = (w : List Fault) × ((l.waiting ≡ worst no_fault w)
    × ((m : List ℕ) → does (state_of l.text l.r m) (passing l.outside w) ≡ does (state_of l.text l.initial.r m) (passing l.outside [])))

abbrev pub decreases-loop-waiting : goal.decreases-loop-waiting
decreases-loop-waiting l = size (lift l.text l.r.went)
