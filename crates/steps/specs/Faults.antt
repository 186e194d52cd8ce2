-- AADL.md, section 6: refusals. A fault has a rule, a place, and a word for people: what was expected, or what is wrong.
use Rattle.std.specs.Prelude.{◌∷◌, Option, None, Some}
use Rattle.common.specs.Words.{ℕ, Bool, true, false, List, [], cond, ltb}
use Rattle.steps.specs.declared.faults.Rule.{Rule}
use Rattle.steps.specs.declared.faults.Rule.TheVariants.{Unfit, Unknown, NoTime, TooDeep, Twice}
use Rattle.steps.specs.declared.faults.Why.{Why}
use Rattle.steps.specs.declared.faults.Fault.{Fault}

-- document 02's numbers
abbrev pub number_of : Rule → ℕ
number_of Unfit = 20
number_of Unknown = 21
number_of NoTime = 22
number_of TooDeep = 23
number_of Twice = 24

abbrev pub fault : Rule → ℕ → Why → Fault
fault r p w = record { rule = r; place = p; why = w }

-- no fault at all
abbrev pub no_fault : Option Fault
no_fault = None

-- "The least place decides, at one place the lower number"
unfoldable pub before : Fault → Fault → Bool
before b a =
    cond (ltb b.place a.place) true
    (cond (ltb a.place b.place) false (ltb (number_of b.rule) (number_of a.rule)))

-- the one that decides; of two that are alike the first
unfoldable pub worse : Option Fault → Option Fault → Option Fault
worse a None = a
worse None (Some b) = Some b
worse (Some a) (Some b) = cond (before b a) (Some b) (Some a)

-- the least of a fault and those of a list
unfoldable pub worst : Option Fault → List Fault → Option Fault
worst f [] = f
worst f (g ∷ gs) = worst (worse f (Some g)) gs
