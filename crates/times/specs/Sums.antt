-- What the code reckons of a time: the same with sums that stop at the most, and a form as the definitions say it.
use Rattle.std.specs.Prelude.{◌+◌, ◌*◌, ◌≡◌, Result, Some}
use Rattle.common.specs.Words.{ℕ, min, true, false, List, []}
use Rattle.steps.specs.declared.faults.Fault.{Fault}
use Rattle.steps.specs.declared.faults.Rule.{Rule}
use Rattle.steps.specs.declared.faults.Why.{Why}
use Rattle.tokens.specs.Tokens.{Token}
use Rattle.steps.specs.Faults.{fault, no_fault, worst}
use Rattle.steps.specs.Steps.{Step, On, Stop}
use Rattle.steps.specs.Lifted.{lift}
use Rattle.times.specs.declared.Sum.{Sum}
use Rattle.times.specs.declared.Formed.{Formed as FormedCode}
use Rattle.times.specs.Times.{sum, with_bytes, most, odd, Formed, formed, time}

-- one digit more, as far as the most
abbrev pub grown : ℕ → ℕ → ℕ
grown n d = min most (n * 10 + d)

abbrev pub counted : List ℕ → ℕ → Sum
counted bs places = with_bytes grown (sum 0 places false true) bs

-- a form that the code has read is the one of the definitions
pub record Forms (p : List ℕ) (r : FormedCode) (f : Formed) : Type 0 where
  pub went : lift p r.went ≡ f.went
  pub value : r.value ≡ f.value
  pub fault : r.fault ≡ worst no_fault f.notes

-- a form behind a rule, which may have stopped
abbrev pub form_from : (List Token → Formed) → Step → Formed
form_from form (On ts) = form ts
form_from form (Stop f) = formed (Stop f) 0 []

abbrev pub time_from : Step → Formed
time_from = form_from time

abbrev pub unformed : Result ℕ Fault → FormedCode
unformed w = record { went = w; value = 0; fault = no_fault }

abbrev pub odd_at : Result ℕ Fault → Rule → ℕ → Why → FormedCode
odd_at w rule place why = record { went = w; value = odd; fault = Some (fault rule place why) }
