-- The theorems speak of something: document 01's Table A is such a plan, a start on it is accepted, with 8 slots instead of 9 it loses
-- a message, and document 01's session is a history of it that tells a message and two gaps and reads a window to its end.
use Rattle.std.specs.Prelude.{◌∷◌, ◌≡◌}
use Rattle.common.specs.Words.{ℕ, arith, true, false, List, [], inl, inr, refl, ◌∙◌, replicate}
use Rattle.common.specs.Totals.{sum, most}
use Rattle.common.proofs.Rows.{every, some, first_bad}
use Rattle.calendar.specs.Calendar.{message, slot}
use Rattle.model.specs.Model.{count, has_deadline, precedes, up_to, due_at, followers, number, wanted_for, horizon, outdated, euclid, gcd, lcm}
use Rattle.model.specs.Model.{multiple, hyperperiod, need, row_slots, slots_over, slots, last, sender_of}
use Rattle.model.proofs.WayBack.{way_back}
use Rattle.plan.specs.Rules.{one_to, counts_good, task_good, only_tasks_send, queue_good, place_good, places_good, checked_plan, sound_plan}
use Rattle.plan.specs.Limits.{last_tick}
use Rattle.plan.specs.Plan.{queue_at}
use Rattle.plan.specs.Sound.{sound_iff}
use Rattle.slots.specs.Slots.{bytes_of, number_from, stored, cleared}
use Rattle.running.specs.Calls as running
use Rattle.running.specs.View.{view_of}
use Rattle.mailbox.specs.Calls.{stored_as, start_memory, send_state, receive_state, found}
use Rattle.history.specs.Types.{Plan, Received}
use Rattle.history.specs.History.{History, start, ◌then◌, send, receive, same, Begins, after, world, send_says, receive_says, accepted_as, SentIn}
use Rattle.history.specs.History.{Reading, read_by, window_numbers, Among, ReadToEnd}
use Rattle.history.proofs.Ground.{valid_at}
use Rattle.history.proofs.Made.{blank, blank_begins}
use Rattle.planning.specs.AcceptedPlan.{Made}
use Rattle.history.proofs.Resized.{resized}
use Rattle.history.proofs.Least.{Lost}
use Rattle.history.proofs.Theorems.{least, sent_is_read}

-- "tasks 5/5, 7/7, 10/10 (period/deadline); the first two send to the third", with the 9 slots that it needs
abbrev pub table_a : Plan
table_a = record {
  tasks = 3;
  queues = 1;
  period = 5 ∷ 7 ∷ 10 ∷ replicate 13 0;
  deadline = 5 ∷ 7 ∷ 10 ∷ replicate 13 0;
  priority = replicate 16 0;
  receiver = 2 ∷ replicate 7 0;
  sends = true ∷ true ∷ replicate 126 false;
  size = 9 ∷ replicate 7 0;
  place = replicate 8 0;
}

sound : sound_plan table_a ≡ true
unfolding sound_plan checked_plan counts_good one_to task_good queue_good only_tasks_send places_good place_good every some first_bad sum
sound = refl

nine : slots (queue_at table_a 0) ≡ 9
unfolding
    sum most count has_deadline precedes up_to due_at followers number wanted_for horizon outdated
    euclid gcd lcm multiple hyperperiod need row_slots slots_over slots
nine = refl

seventy : hyperperiod (queue_at table_a 0) ≡ 70
unfolding euclid gcd lcm multiple hyperperiod
seventy = refl

pub made : Made table_a
made = record {
  sound = sound;
  least = λ q h. let e : q ≡ 0 = omega arith in rw (e, nine);
  short = λ q h. let e : q ≡ 0 = omega arith in rw (e, seventy) (omega arith);
}

pub begins : Begins table_a (blank table_a)
begins = blank_begins table_a sound

pub eight_loses : Lost (resized table_a 0 8) 0
eight_loses = least made 0 8 (omega arith) (omega arith) (omega arith)

-- ## Document 01's session

-- "04000100000000036231z": 62, 31 and 22 zeros
abbrev pub payload : List ℕ
payload = 0x62 ∷ 0x31 ∷ replicate 22 0

abbrev pub filler : List ℕ
filler = replicate 24 0

-- "0500000000000a", four times
abbrev pub session : History
session = start then send 0 1 3 payload then receive 0 10 then receive 0 10 then receive 0 10 then receive 0 10

-- "840000000000020002"
pub stored_two : send_says table_a (world table_a (blank table_a) start) 0 1 3 payload ≡ stored_as (message 2) (slot 2)
unfolding
    sound_plan checked_plan counts_good one_to task_good queue_good only_tasks_send places_good place_good every some first_bad sum
    count has_deadline precedes up_to due_at followers number running.send_answer start_memory cleared
stored_two = refl

-- Messages 1 and 3 are those of jobs 0 and 1 of row 0.
pub sender_one : sender_of (queue_at table_a 0) last_tick 1 ≡ 0
unfolding count has_deadline precedes up_to due_at followers number sum
sender_one =
    (way_back (queue_at table_a 0) (valid_at ((sound_iff table_a).0 sound) 0 (omega arith)) 0 0 1 last_tick
    (record { row = omega arith; on = refl }) refl (omega arith)).1

pub sender_three : sender_of (queue_at table_a 0) last_tick 3 ≡ 0
unfolding count has_deadline precedes up_to due_at followers number sum
sender_three =
    (way_back (queue_at table_a 0) (valid_at ((sound_iff table_a).0 sound) 0 (omega arith)) 0 1 3 last_tick
    (record { row = omega arith; on = refl }) refl (omega arith)).1

abbrev pub gap : ℕ → ℕ → Reading
gap n row = record { answer = Received.Gap (message n) row; shown = filler }

-- "8600000000000100", "850000000000026231z", "8600000000000300": what job 1 of the receiver read
abbrev pub two : Reading
two = record { answer = Received.Message (message 2) (slot 2); shown = payload }

-- the history before the last receive
abbrev all_read : History
all_read = start then send 0 1 3 payload then receive 0 10 then receive 0 10 then receive 0 10

computed :
    (read_by table_a (blank table_a) filler session 0 1
    ≡ gap 1 (sender_of (queue_at table_a 0) last_tick 1) ∷ two ∷ gap 3 (sender_of (queue_at table_a 0) last_tick 3) ∷ [])
    × (receive_says table_a (world table_a (blank table_a) all_read) 0 10 ≡ Received.Empty)
unfolding
    sound_plan checked_plan counts_good one_to task_good queue_good only_tasks_send places_good place_good every some first_bad sum count has_deadline
    precedes up_to due_at followers number last wanted_for running.send_answer running.send_memory running.look start_memory send_state
    receive_state found bytes_of number_from stored cleared view_of after
computed = (refl, refl)

pub session_reads : read_by table_a (blank table_a) filler session 0 1 ≡ gap 1 0 ∷ two ∷ gap 3 0 ∷ []
session_reads = computed.0 ∙ rw (sender_one, sender_three)

-- which is all of its window,
pub session_window : window_numbers (queue_at table_a 0) 1 ≡ 1 ∷ 2 ∷ 3 ∷ []
unfolding sum count up_to last
session_window = refl

-- "87": and it was told so.
pub session_ends : ReadToEnd table_a (blank table_a) session 0 1
session_ends = record { before = all_read; t = 10; within = same; job = refl; answer = computed.1 }

-- So the premises of the theorem on sent messages are met: message 2 is among the readings.
pub session_sent : SentIn table_a (blank table_a) session 0 2 payload
session_sent = inl (inl (inl (inl (inr (accepted_as stored_two)))))

pub session_two_read : Among two (read_by table_a (blank table_a) filler session 0 1)
unfolding sum count up_to last
session_two_read = sent_is_read made begins session 0 1 2 payload filler refl session_ends (omega arith) (omega arith) session_sent
