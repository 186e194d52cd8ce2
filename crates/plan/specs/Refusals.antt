-- Document 01's refusals: the number of each rule, and the answer of a chain of tests.
use Rattle.std.specs.Prelude.{◌∷◌, ◌⊎◌, ◌≡◌, Result, Ok, Err}
use Rattle.common.specs.Words.{ℕ, Bool, true, false, cond, List, []}
use Rattle.plan.specs.declared.refusal.Rule.{Rule}
use Rattle.plan.specs.declared.refusal.Rule.TheVariants.{TaskOrQueueCount, PeriodOrDeadline, ReceiverOrSender, HyperperiodTooLong, TooManyMessages}
use Rattle.plan.specs.declared.refusal.Rule.TheVariants.{TooManySlots, UnsoundPlan, ShortMemory, NoSuchSender, TickBeforeState, PastLastTick, JobOver}
use Rattle.plan.specs.declared.refusal.Rule.TheVariants.{SentAlready, PayloadLength, NoSuchNumber}
use Rattle.plan.specs.declared.refusal.Refusal.{Refusal}

abbrev pub number_of : Rule → ℕ
number_of TaskOrQueueCount = 1
number_of PeriodOrDeadline = 2
number_of ReceiverOrSender = 3
number_of HyperperiodTooLong = 4
number_of TooManyMessages = 5
number_of TooManySlots = 6
number_of UnsoundPlan = 7
number_of ShortMemory = 8
number_of NoSuchSender = 9
number_of TickBeforeState = 10
number_of PastLastTick = 11
number_of JobOver = 12
number_of SentAlready = 13
number_of PayloadLength = 14
number_of NoSuchNumber = 15

-- "A refusal of 2 to 5 names the first bad row from 0; all others name 0."
abbrev pub named : Rule → ℕ → Refusal
named rule row = record { rule = rule; row = row }

abbrev pub unnamed : Rule → Refusal
unnamed rule = named rule 0

-- One line of the table of refusals as a call tests it: the refusal is given where the test is true.
pub record Line : Type 0 where
  pub applies : Bool
  pub given : Refusal

infix 70 ◌gives◌
abbrev pub ◌gives◌ : Bool → Refusal → Line
test gives refusal = record { applies = test; given = refusal }

-- The answer of a call: the first line that applies, in the order of the list, and the good answer where none does.
abbrev pub judged : {A : Type 0} → List Line → (Refusal → A) → A → A
judged [] refused good = good
judged (line ∷ lines) refused good = cond line.applies (refused line.given) (judged lines refused good)

-- what the tests of a call come to
abbrev pub Verdict : Type 0
Verdict = Result (Unit {0}) Refusal

abbrev pub clear : Verdict
clear = Ok tt

abbrev pub verdict : List Line → Verdict
verdict lines = judged lines Err clear

-- the first line that applies gives r
abbrev pub Stopped : List Line → Refusal → Type 0
Stopped [] r = ⊥
Stopped (line ∷ lines) r = ((line.applies ≡ true) × (line.given ≡ r)) ⊎ ((line.applies ≡ false) × Stopped lines r)
