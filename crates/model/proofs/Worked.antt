-- Document 01's values that are reckoned by hand and marked p1 to p12, and behind them four of request b: one table, proved by one claim
-- about the definitions.
use Rattle.std.specs.Prelude.{◌≤◌, ◌&&◌, ◌∷◌, ◌↔◌}
use Rattle.common.specs.Words.{ℕ, arith, Bool, true, false, List, [], refl, T, eqb, get_or}
use Rattle.common.specs.Totals.{sum, most}
use Rattle.common.proofs.Rows.{every}
use Rattle.model.specs.Model.{Queue, Sender, count, has_deadline, precedes, up_to, due_at, followers, number, first, last, wanted_for, horizon}
use Rattle.model.specs.Model.{outdated, deadline_of, release_of, euclid, gcd, lcm, multiple, hyperperiod, messages, need, row_slots, slots_over}
use Rattle.model.specs.Model.{slots}
use Rattle.model.specs.Source.{Fit, outdated_at, reach, equation3}
use Rattle.model.specs.Checks.{is_valid, valid_of}
use Rattle.model.proofs.Slots.{slots_iff}

-- a table of n tasks, a list for each column
abbrev table_by : List ℕ → ℕ → List ℕ → List ℕ → List Bool → ℕ → Queue
table_by priorities n periods deadlines senders receiver = record {
  rows = n;
  period = λ i. get_or periods i 0;
  deadline = λ i. get_or deadlines i 0;
  priority = λ i. get_or priorities i 0;
  sends = λ i. get_or senders i false;
  receiver = receiver;
}

-- "A line of five bytes has priority 0."
abbrev table_of : ℕ → List ℕ → List ℕ → List Bool → ℕ → Queue
table_of = table_by []

-- "Table A: tasks 5/5, 7/7, 10/10 (period/deadline); the first two send to the third."
abbrev pub table_a : Queue
table_a = table_of 3 (5 ∷ 7 ∷ 10 ∷ []) (5 ∷ 7 ∷ 10 ∷ []) (true ∷ true ∷ false ∷ []) 2

-- "with receiver 10/8"
abbrev shorter_receiver : Queue
shorter_receiver = table_of 3 (5 ∷ 7 ∷ 10 ∷ []) (5 ∷ 7 ∷ 8 ∷ []) (true ∷ true ∷ false ∷ []) 2

-- "sender 10/10, receiver 10/10"
abbrev same_periods : Queue
same_periods = table_of 2 (10 ∷ 10 ∷ []) (10 ∷ 10 ∷ []) (true ∷ false ∷ []) 1

-- "sender 10/1, receiver 2/1"
abbrev fast_receiver : Queue
fast_receiver = table_of 2 (10 ∷ 2 ∷ []) (1 ∷ 1 ∷ []) (true ∷ false ∷ []) 1

-- Request b. Tasks 0 and 1 of Table A have a deadline in common, 35, and task 1 has the higher priority; "A maker sorted the rows of his
-- table by name": the two change places, with their priorities.
abbrev by_priority : Queue
by_priority = table_by (3 ∷ 8 ∷ 0 ∷ []) 3 (5 ∷ 7 ∷ 10 ∷ []) (5 ∷ 7 ∷ 10 ∷ []) (true ∷ true ∷ false ∷ []) 2

abbrev sorted_rows : Queue
sorted_rows = table_by (8 ∷ 3 ∷ 0 ∷ []) 3 (7 ∷ 5 ∷ 10 ∷ []) (7 ∷ 5 ∷ 10 ∷ []) (true ∷ true ∷ false ∷ []) 2

-- Senders 5/5 and 10/10, receiver 5/5, deadline 10 in common: the size changes when two priorities change places.
abbrev fast_first : Queue
fast_first = table_by (1 ∷ 0 ∷ 0 ∷ []) 3 (5 ∷ 10 ∷ 5 ∷ []) (5 ∷ 10 ∷ 5 ∷ []) (true ∷ true ∷ false ∷ []) 2

abbrev slow_first : Queue
slow_first = table_by (0 ∷ 1 ∷ 0 ∷ []) 3 (5 ∷ 10 ∷ 5 ∷ []) (5 ∷ 10 ∷ 5 ∷ []) (true ∷ true ∷ false ∷ []) 2

-- p n: what is computed, and what it has to be
pub record Row : Type 0 where
  pub label : ℕ
  pub is : List ℕ
  pub wanted : List ℕ

abbrev p : ℕ → List ℕ → List ℕ → Row
p n is wanted = record { label = n; is = is; wanted = wanted }

same : List ℕ → List ℕ → Bool
same [] [] = true
same [] (n ∷ ns) = false
same (m ∷ ms) [] = false
same (m ∷ ms) (n ∷ ns) = eqb m n && same ms ns

pub agree : List Row → Bool
agree [] = true
agree (r ∷ rs) = same r.is r.wanted && agree rs

-- p9's reasons stand beside it: message 4 is task 1's job 1 and outdated at 30, message 4 + 8 is task 1's job 4 and released at 28, and
-- equation 3 gives 10
pub rows : List Row
rows =
    p 1 (number table_a 0 0 ∷ []) (1 ∷ [])
    ∷ p 2 (number table_a 1 0 ∷ []) (2 ∷ [])
    ∷ p 3 (number table_a 0 1 ∷ []) (3 ∷ [])
    ∷ p 4 (number table_a 0 6 ∷ []) (11 ∷ [])
    ∷ p 5 (number table_a 1 4 ∷ deadline_of table_a 0 6 ∷ deadline_of table_a 1 4 ∷ []) (12 ∷ 35 ∷ 35 ∷ [])
    ∷ p 6 (number table_a 1 9 ∷ hyperperiod table_a ∷ messages table_a (hyperperiod table_a) ∷ []) (24 ∷ 70 ∷ 24 ∷ [])
    ∷ p 7 (first table_a 1 ∷ last table_a 1 ∷ []) (1 ∷ 3 ∷ [])
    ∷ p 8 (first table_a 4 ∷ last table_a 4 ∷ []) (11 ∷ 13 ∷ [])
    ∷ p 9
    (slots table_a ∷ number table_a 1 1 ∷ outdated_at table_a (deadline_of table_a 1 1) ∷ number table_a 1 4 ∷ release_of table_a 1 4
    ∷ equation3 table_a ∷ [])
    (9 ∷ 4 ∷ 30 ∷ 12 ∷ 28 ∷ 10 ∷ [])
    ∷ p 10 (slots shorter_receiver ∷ []) (8 ∷ [])
    ∷ p 11 (slots same_periods ∷ []) (2 ∷ [])
    ∷ p 12 (slots fast_receiver ∷ []) (1 ∷ [])
    ∷ p 13 (number by_priority 0 6 ∷ number by_priority 1 4 ∷ []) (12 ∷ 11 ∷ [])
    ∷ p 14 (number sorted_rows 1 6 ∷ number sorted_rows 0 4 ∷ slots by_priority ∷ slots sorted_rows ∷ []) (12 ∷ 11 ∷ 9 ∷ 9 ∷ [])
    ∷ p 15 (number fast_first 0 1 ∷ number fast_first 1 0 ∷ slots fast_first ∷ []) (2 ∷ 3 ∷ 5 ∷ [])
    ∷ p 16 (number slow_first 0 1 ∷ number slow_first 1 0 ∷ slots slow_first ∷ []) (3 ∷ 2 ∷ 4 ∷ [])
    ∷ []

-- THE claim
pub worked : T (agree rows)
unfolding
    same agree rows sum most count has_deadline precedes up_to due_at followers number last wanted_for outdated_at horizon outdated
    euclid gcd lcm multiple hyperperiod messages need row_slots slots_over slots reach equation3
worked = tt

-- and what the laws make of it: 9 slots are enough for Table A and fewer are not; of 8, message 4 is the witness
pub nine_is_least : (L : ℕ) → Fit table_a L ↔ (9 ≤ L)
unfolding
    is_valid every sum most count has_deadline precedes up_to due_at followers number wanted_for horizon outdated
    euclid gcd lcm multiple hyperperiod need row_slots slots_over slots
nine_is_least L = slots_iff table_a (valid_of table_a refl) L

pub eight_is_not_fit : Fit table_a 8 → ⊥
unfolding sum count has_deadline precedes up_to due_at followers number wanted_for outdated_at
eight_is_not_fit fit =
    let late : outdated_at table_a (deadline_of table_a 1 1) ≤ release_of table_a 1 4 = fit 1 1 1 4 sends sends refl in
    omega arith
  where
    sends : Sender table_a 1
    sends = record { row = omega arith; on = refl }
