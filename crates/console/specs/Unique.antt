-- The contract of a step determines its outcome.
use Rattle.std.specs.Prelude.{◌≡◌}
use Rattle.common.specs.Words.{ℕ, List, sym, ◌∙◌}
use Rattle.console.specs.Step.{StepGives}
use Rattle.console.specs.Types.{Desk, Replied}

pub step_unique : (d : Desk) (m line out : List ℕ) (r r' : Replied) (memory memory' out' out'' : List ℕ) →
    StepGives d m line out r memory out' → StepGives d m line out r' memory' out'' →
    (r ≡ r') × (memory ≡ memory') × (out' ≡ out'')
step_unique d m line out r r' memory memory' out' out'' a b = (a.0 ∙ sym b.0, a.1 ∙ sym b.1, a.2 ∙ sym b.2)
