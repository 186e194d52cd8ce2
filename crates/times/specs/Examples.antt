-- AADL.md's own times and priorities, and some beside them, reckoned by hand.
use Rattle.std.specs.Prelude.{◌∷◌, ◌≡◌}
use Rattle.common.specs.Words.{ℕ, List, [], refl}
use Rattle.words.specs.Letters.{letters}
use Rattle.words.specs.Words.{NAME}
use Rattle.words.specs.Kinds.{ENDED, NUMBER, SEMICOLON, END, MS, SEC}
use Rattle.tokens.specs.Tokens.{Token, token}
use Rattle.steps.specs.declared.faults.Rule.TheVariants.{Unfit, NoTime}
use Rattle.steps.specs.declared.faults.Why.{Why}
use Rattle.steps.specs.Faults.{fault}
use Rattle.steps.specs.Steps.{On, Stop}
use Rattle.times.specs.Times.{with_byte, with_bytes, filled, most, Formed, formed, odd, valued, not_whole, unit_unknown, unit_missing, time_of, time}
use Rattle.times.specs.Priorities.{a_priority, priority_of, priority}

-- a number in milliseconds and in seconds
abbrev ms : List ℕ → Formed
ms number = time_of (token NUMBER 7 number) 0 (On [])

abbrev sec : List ℕ → Formed
sec number = time_of (token NUMBER 7 number) 3 (On [])

-- what is whole, and what is not
abbrev ticks : ℕ → Formed
ticks n = formed (On []) (valued n) []

abbrev broken : Formed
broken = formed (On []) odd (fault NoTime 7 not_whole ∷ [])

-- "0.5 sec is 500, 5.0 ms is 5"
half_second : sec (letters "0.5") ≡ ticks 500
unfolding with_byte with_bytes filled time_of
half_second = refl

five : ms (letters "5.0") ≡ ticks 5
unfolding with_byte with_bytes filled time_of
five = refl

-- "0.5 ms and 0.0005 sec are not whole"
half : ms (letters "0.5") ≡ broken
unfolding with_byte with_bytes filled time_of
half = refl

half_in_seconds : sec (letters "0.0005") ≡ broken
unfolding with_byte with_bytes filled time_of
half_in_seconds = refl

-- zeros behind the last tick say nothing, nor do underscores; a digit behind zeros does
zeros : sec (letters "1_2.04_50_00_") ≡ ticks 12045
unfolding with_byte with_bytes filled time_of
zeros = refl

behind_zeros : ms (letters "20.000_1") ≡ broken
unfolding with_byte with_bytes filled time_of
behind_zeros = refl

-- "a Period of 0 or of 10^30 ms is for planning to refuse (2), and nothing overflows"
nought : ms (letters "0") ≡ ticks 0
unfolding with_byte with_bytes filled time_of
nought = refl

huge : ms (letters "1_000_000_000_000_000_000_000_000_000_000") ≡ ticks most
unfolding with_byte with_bytes filled time_of
huge = refl

huge_seconds : sec (letters "1_000_000_000") ≡ ticks most
unfolding with_byte with_bytes filled time_of
huge_seconds = refl

below_huge : sec (letters "999_999_999.999") ≡ ticks 999_999_999_999
unfolding with_byte with_bytes filled time_of
below_huge = refl

-- one that is over the most and not whole is not whole
huge_broken : ms (letters "1_000_000_000_000_000_000_000_000_000_000.5") ≡ broken
unfolding with_byte with_bytes filled time_of
huge_broken = refl

-- what follows a time
abbrev rest : List Token
rest = token SEMICOLON 13 (letters ";") ∷ token ENDED 14 [] ∷ []

-- a NUMBER at 3, the unit at 9: how the text goes on, the value and the notes
seconds : time (token NUMBER 3 (letters "1.5") ∷ token SEC 9 (letters "sec") ∷ rest) ≡ formed (On rest) (valued 1500) []
unfolding with_byte with_bytes filled time_of time
seconds = refl

milliseconds : time (token NUMBER 3 (letters "1.5") ∷ token MS 9 (letters "ms") ∷ rest) ≡ formed (On rest) odd (fault NoTime 3 not_whole ∷ [])
unfolding with_byte with_bytes filled time_of time
milliseconds = refl

-- "at the unit, where it is not ms or sec (then the NUMBER is not judged)"; "Microseconds: 22 .. even where they come to whole ticks"
microseconds : time (token NUMBER 3 (letters "1_000") ∷ token NAME 9 (letters "us") ∷ rest)
    ≡ formed (On rest) odd (fault NoTime 9 unit_unknown ∷ [])
unfolding with_byte with_bytes filled time_of time
microseconds = refl

unjudged : time (token NUMBER 3 (letters "0.5") ∷ token NAME 9 (letters "us") ∷ rest) ≡
    formed (On rest) odd (fault NoTime 9 unit_unknown ∷ [])
unfolding with_byte with_bytes filled time_of time
unjudged = refl

-- "at the NUMBER, where no NAME follows": another token, a reserved word, or the text's end
without : time (token NUMBER 3 (letters "5") ∷ rest) ≡ formed (On rest) odd (fault NoTime 3 unit_missing ∷ [])
unfolding with_byte with_bytes filled time_of time
without = refl

reserved : time (token NUMBER 3 (letters "5") ∷ token END 5 (letters "end") ∷ rest)
    ≡ formed (On (token END 5 (letters "end") ∷ rest)) odd (fault NoTime 3 unit_missing ∷ [])
unfolding with_byte with_bytes filled time_of time
reserved = refl

ended : time (token NUMBER 3 (letters "5") ∷ token ENDED 4 [] ∷ []) ≡
    formed (On (token ENDED 4 [] ∷ [])) odd (fault NoTime 3 unit_missing ∷ [])
unfolding with_byte with_bytes filled time_of time
ended = refl

-- "anything else fits no rule"
no_number : time (token NAME 3 (letters "five") ∷ token MS 9 (letters "ms") ∷ rest) ≡ formed (Stop (fault Unfit 3 (Why.Expected NUMBER))) 0 []
unfolding with_byte with_bytes filled time_of time
no_number = refl

-- ## Priorities

abbrev rank : List ℕ → Formed
rank number = priority_of (token NUMBER 7 number) (On [])

-- one that is there, and one that is over 255
abbrev ranked : ℕ → Formed
ranked n = formed (On []) (valued n) []

abbrev over : Formed
over = formed (On []) odd (fault Unfit 7 a_priority ∷ [])

lowest : rank (letters "0") ≡ ranked 0
unfolding with_byte with_bytes priority_of
lowest = refl

-- underscores say nothing, nor do zeros before it
highest : rank (letters "02_5_5_") ≡ ranked 255
unfolding with_byte with_bytes priority_of
highest = refl

-- "A Priority over 255 is 20 at its NUMBER, noted", and nothing overflows
one_more : rank (letters "256") ≡ over
unfolding with_byte with_bytes priority_of
one_more = refl

huge_priority : rank (letters "1_000_000_000_000_000_000_000_000_000_000") ≡ over
unfolding with_byte with_bytes priority_of
huge_priority = refl

-- "NUMBER without a point": "anything else fits no rule"
pointed : rank (letters "5.0") ≡ formed (Stop (fault Unfit 7 a_priority)) 0 []
unfolding with_byte with_bytes priority_of
pointed = refl

high : priority (token NAME 3 (letters "high") ∷ rest) ≡ formed (Stop (fault Unfit 3 a_priority)) 0 []
unfolding priority
high = refl

-- what follows it is no part of it: `;` is wanted there
unit_behind : priority (token NUMBER 3 (letters "5") ∷ token MS 9 (letters "ms") ∷ rest)
    ≡ formed (On (token MS 9 (letters "ms") ∷ rest)) (valued 5) []
unfolding with_byte with_bytes priority_of priority
unit_behind = refl
