-- AADL.md, section 4: priorities. "NUMBER without a point".
use Rattle.std.specs.Prelude.{◌∷◌}
use Rattle.common.specs.Words.{ℕ, false, true, cond, List, [], leb, drop}
use Rattle.words.specs.Kinds.{NUMBER}
use Rattle.tokens.specs.Tokens.{Token}
use Rattle.steps.specs.declared.faults.Rule.TheVariants.{Unfit}
use Rattle.steps.specs.declared.faults.Why.{Why}
use Rattle.words.specs.Same.{same_kind}
use Rattle.steps.specs.Faults.{fault}
use Rattle.steps.specs.Steps.{Step, On, Stop, head, unfit}
use Rattle.times.specs.Times.{sum, with_bytes, tenfold, Formed, formed, odd, valued}
use Rattle.times.specs.Sums.{form_from}

-- what was expected of a priority
abbrev pub a_priority : Why
a_priority = Why.APriority

abbrev pub most_priority : ℕ
most_priority = 255

-- "anything else fits no rule"; "A Priority over 255 is 20 at its NUMBER, noted"
unfoldable pub priority_of : Token → Step → Formed
priority_of k w =
    let s = with_bytes tenfold (sum 0 0 false true) k.letters in
    cond s.point (formed (Stop (fault Unfit k.start a_priority)) 0 [])
    (cond (leb s.ticks most_priority) (formed w (valued s.ticks) []) (formed w odd (fault Unfit k.start a_priority ∷ [])))

unfoldable pub priority : List Token → Formed
priority ts = cond (same_kind (head ts).kind NUMBER) (priority_of (head ts) (On (drop 1 ts))) (formed (unfit a_priority ts) 0 [])

abbrev pub priority_from : Step → Formed
priority_from = form_from priority
