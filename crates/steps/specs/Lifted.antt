-- What the code says of a rule, a place or a fault, as the definitions say it.
use Rattle.std.specs.Prelude.{Result, Ok, Err}
use Rattle.common.specs.Words.{ℕ, Bool, false, List, suc, length}
use Rattle.steps.specs.declared.faults.Fault.{Fault}
use Rattle.words.specs.declared.kinds.Kind.{Kind}
use Rattle.tokens.specs.Tokens.{Token, from}
use Rattle.steps.specs.Steps.{Step, nothing, head, second}

-- a place as the tokens from it on
abbrev pub lift : List ℕ → Result ℕ Fault → Step
lift p (Ok at) = Step.On (from p at)
lift p (Err f) = Step.Stop f

-- the token that a step stands at, and the kinds of that and of the one behind it
abbrev pub first : Step → Token
first (Step.On ts) = head ts
first (Step.Stop f) = nothing

abbrev pub first_kind : Step → Kind
first_kind s = (first s).kind

abbrev pub second_kind : Step → Kind
second_kind (Step.On ts) = second ts
second_kind (Step.Stop f) = nothing.kind

-- a test of the next tokens, which fails where a rule has stopped
abbrev pub holds : (List Token → Bool) → Step → Bool
holds test (Step.On ts) = test ts
holds test (Step.Stop f) = false

-- how far a loop has to go still
abbrev pub size : Step → ℕ
size (Step.On ts) = suc (length ts)
size (Step.Stop f) = 0
