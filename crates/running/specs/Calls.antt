-- What start, send and receive answer, and what they leave of the memory and of a state, on every input. Of a state a send looks at its
-- tick, `before`, and at the job after the last one that the task sent into the queue, `unsent`; a receive at its tick and at the queue's
-- reading place, `unread`. Each call's lines of the table of refusals are the crate judge's.
use Rattle.std.specs.Prelude.{◌+◌, ◌*◌, ◌/◌, ◌≡◌, Result, Ok, Err}
use Rattle.common.specs.Words.{ℕ, max, cond, List, ltb, eqb, get_or, set}
use Rattle.model.specs.Model.{Queue, number, first, last, sender_of}
use Rattle.calendar.specs.Calendar.{tick, message, slot}
use Rattle.plan.specs.Limits.{task_limit, last_tick, payload_bytes}
use Rattle.plan.specs.Plan.{queue_at, size_at, place_at, slots_of}
use Rattle.plan.specs.Refusals.{verdict, judged}
use Rattle.slots.specs.Slots.{slot_of, slot_from, number_in, stored, cleared}
use Rattle.running.specs.Types.{Number, Slot, Tick, Plan, Refusal, Verdict, Stored, Received}
pub use Rattle.judge.specs.Lines.{start_lines, send_lines, receive_lines, running_job, running_deadline, receiving_job, unsent_at}

-- ## Start

unfoldable pub start_answer : Plan → List ℕ → Verdict
start_answer p m = verdict (start_lines p m)

-- "Start clears the slots of the plan in lent memory to zero bytes .. A refused start gives the fresh state and touches no byte"
unfoldable pub start_memory : Plan → List ℕ → List ℕ
start_memory p m = judged (start_lines p m) (λ r. m) (cleared payload_bytes m (slots_of p))

-- ## Send

-- the number of the running job's message
abbrev pub running_number : Queue → ℕ → ℕ → ℕ
running_number q i t = number q i (running_job q i t)

-- a message's slot within its queue, and from the start of memory
abbrev pub slot_in : Plan → ℕ → ℕ → ℕ
slot_in p q n = slot_of (size_at p q) n

abbrev pub slot_for : Plan → ℕ → ℕ → ℕ
slot_for p q n = slot_from (place_at p q) (size_at p q) n

-- what a send answers that stored its message: the number, and the slot within its queue
abbrev pub stored_as : Number → Slot → Result Stored Refusal
stored_as n at = Ok (record { number = n; slot = at })

unfoldable pub send_answer : ℕ → ℕ → Plan → List ℕ → ℕ → ℕ → ℕ → List ℕ → Result Stored Refusal
send_answer before unsent p m q i t payload =
    let n = running_number (queue_at p q) i t in
    judged (send_lines before unsent p m q i t payload) Err (stored_as (message n) (slot (slot_in p q n)))

unfoldable pub send_memory : ℕ → ℕ → Plan → List ℕ → ℕ → ℕ → ℕ → List ℕ → List ℕ
send_memory before unsent p m q i t payload =
    let n = running_number (queue_at p q) i t in
    judged (send_lines before unsent p m q i t payload) (λ r. m) (stored payload_bytes m (slot_for p q n) n payload)

-- what an answer leaves of a state: "Accepted sends and receives, empty ones too, set the state's tick"
abbrev pub sent_tick : Result Stored Refusal → ℕ → ℕ → ℕ
sent_tick (Ok it) before t = t
sent_tick (Err r) before t = before

-- and the job of the task, of those with these periods, counts as sent
abbrev pub sent_jobs : Result Stored Refusal → List ℕ → List ℕ → ℕ → ℕ → ℕ → List ℕ
sent_jobs (Ok it) sent period q i t = set sent (q * task_limit + i) (t / get_or period i 0 + 1)
sent_jobs (Err r) sent period q i t = sent

-- what a send hands back, and what it leaves of a state's tick and column of jobs, and of the memory
abbrev pub SendLeaves : ℕ → List ℕ → Plan → List ℕ → ℕ → ℕ → ℕ → List ℕ → Result Stored Refusal → Tick →
    List ℕ → List ℕ → Type 0
SendLeaves before sent p m q i t payload r tick' sent' memory' =
    let a = send_answer before (unsent_at sent q i) p m q i t payload in
    (r ≡ a) × (tick' ≡ tick (sent_tick a before t))
    × (sent' ≡ sent_jobs a sent p.period q i t)
    × (memory' ≡ send_memory before (unsent_at sent q i) p m q i t payload)

-- ## Receive. It is a look, which changes nothing, and then a step on from the answer.

-- "a reading place before the window counts as its first number"
abbrev pub next_number : ℕ → Plan → ℕ → ℕ → ℕ
next_number unread p q t = max unread (first (queue_at p q) (receiving_job (queue_at p q) t))

-- "A slot that holds another number is a gap, and the gap names the sender."
unfoldable pub found : Plan → List ℕ → ℕ → ℕ → Received
found p m q n =
    cond (eqb (number_in payload_bytes m (slot_for p q n)) n)
    (Received.Message (message n) (slot (slot_for p q n)))
    (Received.Gap (message n) (sender_of (queue_at p q) last_tick n))

-- what an accepted receive answers
abbrev pub accepted_receive : ℕ → Plan → List ℕ → ℕ → ℕ → Received
accepted_receive unread p m q t =
    cond (ltb (last (queue_at p q) (receiving_job (queue_at p q) t)) (next_number unread p q t)) Received.Empty
    (found p m q (next_number unread p q t))

unfoldable pub look : ℕ → ℕ → Plan → List ℕ → ℕ → ℕ → Received
look before unread p m q t = judged (receive_lines before p m q t) Received.Refused (accepted_receive unread p m q t)

-- what an answer leaves of a state: "each message or gap moves on by one; past the last number it is empty, which changes only the state's
-- tick"
abbrev pub read_tick : Received → ℕ → ℕ → ℕ
read_tick (Received.Message n at) before t = t
read_tick (Received.Gap n row) before t = t
read_tick Received.Empty before t = t
read_tick (Received.Refused r) before t = before

abbrev pub read_places : Received → List ℕ → ℕ → List ℕ
read_places (Received.Message n at) reading q = set reading q (n.0 + 1)
read_places (Received.Gap n row) reading q = set reading q (n.0 + 1)
read_places Received.Empty reading q = reading
read_places (Received.Refused r) reading q = reading

-- what a receive answers, and what it leaves of a state's tick and column of reading places
abbrev pub ReceiveLeaves : ℕ → List ℕ → Plan → List ℕ → ℕ → ℕ → Received → Tick → List ℕ → Type 0
ReceiveLeaves before reading p m q t r tick' reading' =
    let a = look before (get_or reading q 0) p m q t in
    (r ≡ a) × (tick' ≡ tick (read_tick a before t)) × (reading' ≡ read_places a reading q)
