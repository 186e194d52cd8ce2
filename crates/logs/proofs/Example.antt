-- Document 01's session as a log: computed line by line. The theorems' premises are met, and what they say of it is what document 01 prints.
use Rattle.std.specs.Prelude.{◌%◌, ◌≤◌, ◌∷◌, ◌++◌, ◌≡◌}
use Rattle.common.specs.Words.{ℕ, arith, List, [], inl, inr, refl, subst, ◌∙◌, replicate}
use Rattle.common.specs.Totals.{sum, most}
use Rattle.common.proofs.Rows.{every, some, first_bad}
use Rattle.common.specs.Table.{table}
use Rattle.model.specs.Model.{count, has_deadline, precedes, up_to, due_at, followers, number, wanted_for, horizon, outdated, euclid, gcd, lcm}
use Rattle.model.specs.Model.{multiple, hyperperiod, messages, need, row_slots, slots_over, slots, first, last, sender_of}
use Rattle.calendar.specs.Calendar.{tick}
use Rattle.plan.specs.Limits.{last_tick}
use Rattle.plan.specs.Plan.{queue_at}
use Rattle.plan.specs.Rules.{one_to, counts_good, task_good, only_tasks_send, queue_good, place_good, places_good, checked_plan, sound_plan}
use Rattle.tables.specs.Table.{tabled}
use Rattle.places.specs.Places.{long_queue}
use Rattle.planning.specs.Planning.{sized, table_judged, plan_of}
use Rattle.slots.specs.Slots.{bytes_of, number_from, stored, cleared}
use Rattle.running.specs.Calls as running
use Rattle.running.specs.View.{view_of}
use Rattle.mailbox.specs.Calls.{start_answer, start_memory, send_state, receive_state, found}
use Rattle.history.proofs.Example.{table_a, payload, sender_one, sender_three}
use Rattle.digits.specs.Hex.{digit, is_line, bytes_in, digits}
use Rattle.digits.specs.Numbers.{value_at, in_bytes}
use Rattle.frames.specs.Frames.{frame_of, payload_in}
use Rattle.frames.specs.Answers.{each_size, sizes_bytes, stored_bytes, message_bytes, gap_bytes, empty_bytes, line_of}
use Rattle.console.specs.Framing.{framed_bytes}
use Rattle.desk.specs.Desk.{row_turn, with_task, with_queue, planned, with_run, go_turn, with_state, call_turn, bytes_turn, line_turn}
use Rattle.feed.specs.Answers.{console_after, answers_to}
use Rattle.logs.specs.Types.{Plan}
use Rattle.logs.specs.Said.{said_in}
use Rattle.logs.specs.Log.{log_of, opened, session_log, desk_after, AcceptedIn, StoredIn, lines_to, EndedIn, AmongLines}
use Rattle.logs.proofs.Theorems.{stored_is_told}

-- "0500000000000a"
abbrev receive_line : List ℕ
receive_line = digits (0x05 ∷ 0 ∷ 0 ∷ 0 ∷ 0 ∷ 0 ∷ 10 ∷ [])

-- "Input, whole"
abbrev pub input : List (List ℕ)
input =
    digits (0x01 ∷ 0 ∷ 5 ∷ 0 ∷ 5 ∷ [])
    ∷ digits (0x01 ∷ 0 ∷ 7 ∷ 0 ∷ 7 ∷ [])
    ∷ digits (0x01 ∷ 0 ∷ 10 ∷ 0 ∷ 10 ∷ [])
    ∷ digits (0x02 ∷ 2 ∷ 0 ∷ 3 ∷ [])
    ∷ digits (0x03 ∷ [])
    ∷ digits (0x04 ∷ 0 ∷ 1 ∷ 0 ∷ 0 ∷ 0 ∷ 0 ∷ 3 ∷ payload)
    ∷ receive_line ∷ receive_line ∷ receive_line ∷ receive_line ∷ []

abbrev pub memory : List ℕ
memory = replicate 288 7

-- an 86 of row 0, and all that the session is answered, with the senders of messages 1 and 3 as the way back finds them
abbrev gap_line : ℕ → ℕ → List ℕ
gap_line n row = line_of (0x86 ∷ 0 ∷ 0 ∷ 0 ∷ 0 ∷ 0 ∷ n ∷ row ∷ [])

abbrev message_line : List ℕ
message_line = line_of (0x85 ∷ 0 ∷ 0 ∷ 0 ∷ 0 ∷ 0 ∷ 2 ∷ payload)

abbrev told : ℕ → ℕ → List ℕ
told one three =
    line_of (0x81 ∷ 0 ∷ 9 ∷ [])
    ++ (line_of (0x84 ∷ 0 ∷ 0 ∷ 0 ∷ 0 ∷ 0 ∷ 2 ∷ 0 ∷ 2 ∷ [])
    ++ (gap_line 1 one ++ (message_line ++ (gap_line 3 three ++ line_of (0x87 ∷ [])))))

-- the rows of senders are bytes, so one byte of each is all of it
abbrev byte : ℕ → ℕ
byte n = n % 256

abbrev sender : ℕ → ℕ
sender n = byte (sender_of (queue_at table_a 0) last_tick n)

computed :
    ((desk_after memory input).plan ≡ table_a)
    × (answers_to (opened memory) input ≡ told (sender 1) (sender 3))
    × (lines_to table_a 0 1 (session_log memory input) ≡ gap_line 1 (sender 1) ∷ message_line ∷ gap_line 3 (sender 3) ∷ [])
    × AcceptedIn (session_log memory input) × StoredIn (session_log memory input) 0 2 payload × EndedIn table_a 0 1 (session_log memory input)
unfolding
    sound_plan checked_plan counts_good one_to task_good queue_good only_tasks_send places_good place_good every some first_bad sum most count
    has_deadline
    precedes up_to due_at followers number wanted_for horizon outdated euclid gcd lcm multiple hyperperiod messages need row_slots slots_over slots
    last
    tabled long_queue sized table_judged plan_of table bytes_of number_from stored cleared running.send_answer running.send_memory
    running.look view_of start_answer start_memory send_state receive_state found digit is_line bytes_in digits value_at in_bytes frame_of
    payload_in each_size
    sizes_bytes stored_bytes message_bytes gap_bytes empty_bytes line_of framed_bytes row_turn with_task with_queue planned with_run go_turn
    with_state call_turn
    bytes_turn line_turn console_after answers_to log_of lines_to said_in
computed = (
  refl,
  refl,
  refl,
  inr (inr (inr (inr (inl (record { asked = refl; told = refl }))))),
  inr (inr (inr (inr (inr (inl (record { task = 1; tick = tick 3; slot = 2; asked = refl; carried = refl; told = refl })))))),
  inr (inr (inr (inr (inr (inr (inr (inr (inr (inl (record { tick = tick 10; asked = refl; job = refl; told = refl })))))))))),
)

-- "Output, whole"
pub output : answers_to (opened memory) input ≡ told 0 0
output = computed.1 ∙ rw (sender_one, sender_three)

-- what job 1 of the receiver was told
pub lines_to_job : lines_to table_a 0 1 (session_log memory input) ≡ gap_line 1 0 ∷ message_line ∷ gap_line 3 0 ∷ []
lines_to_job = computed.2 ∙ rw (sender_one, sender_three)

-- Its 03 was answered 81, its 04 was stored as message 2, and job 1 was answered 87: so by the theorem the 85 of that message stands there.
pub two_is_told : AmongLines message_line (lines_to table_a 0 1 (session_log memory input))
unfolding last up_to sum count in_bytes message_bytes
two_is_told =
    subst (λ (p : Plan). EndedIn p 0 1 (session_log memory input) → first (queue_at p 0) 1 ≤ 2 → 2 ≤ last (queue_at p 0) 1 →
    AmongLines message_line (lines_to p 0 1 (session_log memory input))) computed.0
    (stored_is_told memory input computed.3 0 1 2 payload computed.4) computed.5 (omega arith) (omega arith)
