-- What start, send and receive answer, and the state and memory that each leaves, on every input. All of it is the crate running's: a send
-- looks at the state's tick and at the job after the last one that the task sent into the queue, a receive at its tick and at the queue's
-- reading place, and what each leaves follows from its answer.
use Rattle.std.specs.Prelude.{◌∷◌, ◌≡◌, Result, Ok, Err}
use Rattle.common.specs.Words.{ℕ, List, [], get_or, replicate}
use Rattle.calendar.specs.Calendar.{tick}
use Rattle.plan.specs.Limits.{queue_limit, cell_limit}
use Rattle.plan.specs.Refusals.{Line}
use Rattle.plan.specs.Says.{Said, refused_says}
use Rattle.mailbox.specs.Types.{Plan, Refusal, Verdict, State, Starting, Stored, Sending, Received, Receiving}
use Rattle.running.specs.Calls as running
unfoldable pub use Rattle.running.specs.Calls.{start_answer, start_memory, found}
pub use Rattle.running.specs.Calls.{start_lines, running_job, running_deadline, receiving_job, running_number, slot_in, slot_for, stored_as}

-- "a fresh state at tick 0"
abbrev pub fresh : State
fresh = record { tick = tick 0; sent = replicate cell_limit 0; reading = replicate queue_limit 0 }

-- ## Send

-- the job after the last one that task i sent into queue q
abbrev pub unsent_at : State → ℕ → ℕ → ℕ
unsent_at s q i = running.unsent_at s.sent q i

abbrev pub send_lines : State → Plan → List ℕ → ℕ → ℕ → ℕ → List ℕ → List Line
send_lines s p m q i t payload = running.send_lines s.tick.0 (unsent_at s q i) p m q i t payload

abbrev pub send_answer : State → Plan → List ℕ → ℕ → ℕ → ℕ → List ℕ → Result Stored Refusal
send_answer s p m q i t payload = running.send_answer s.tick.0 (unsent_at s q i) p m q i t payload

-- where a message was stored, the task's job is recorded
abbrev pub recorded : State → Plan → ℕ → ℕ → ℕ → Result Stored Refusal → State
recorded s p q i t a = record {
  tick = tick (running.sent_tick a s.tick.0 t);
  sent = running.sent_jobs a s.sent p.period q i t;
  reading = s.reading;
}

unfoldable pub send_state : State → Plan → List ℕ → ℕ → ℕ → ℕ → List ℕ → State
send_state s p m q i t payload = recorded s p q i t (send_answer s p m q i t payload)

abbrev pub send_memory : State → Plan → List ℕ → ℕ → ℕ → ℕ → List ℕ → List ℕ
send_memory s p m q i t payload = running.send_memory s.tick.0 (unsent_at s q i) p m q i t payload

-- ## Receive. It is a look, which changes nothing, and then a step on from the answer.

-- the reading place of queue q
abbrev pub reading_at : State → ℕ → ℕ
reading_at s q = get_or s.reading q 0

abbrev pub receive_lines : State → Plan → List ℕ → ℕ → ℕ → List Line
receive_lines s p m q t = running.receive_lines s.tick.0 p m q t

abbrev pub next_number : State → Plan → ℕ → ℕ → ℕ
next_number s p q t = running.next_number (reading_at s q) p q t

abbrev pub look : State → Plan → List ℕ → ℕ → ℕ → Received
look s p m q t = running.look s.tick.0 (reading_at s q) p m q t

-- what an accepted receive answers
abbrev pub accepted_receive : State → Plan → List ℕ → ℕ → ℕ → Received
accepted_receive s p m q t = running.accepted_receive (reading_at s q) p m q t

-- "each message or gap moves on by one; past the last number it is empty, which changes only the state's tick"
abbrev pub stepped_on : State → ℕ → ℕ → Received → State
stepped_on s q t a = record {
  tick = tick (running.read_tick a s.tick.0 t);
  sent = s.sent;
  reading = running.read_places a s.reading q;
}

unfoldable pub receive_state : State → Plan → List ℕ → ℕ → ℕ → State
receive_state s p m q t = stepped_on s q t (look s p m q t)

-- ## What each call hands back: the answer and the next state in one record, and the memory after it. A receive changes no byte.

abbrev pub StartGives : Plan → List ℕ → Starting → List ℕ → Type 0
StartGives p m r memory = (r ≡ record { answer = start_answer p m; state = fresh }) × (memory ≡ start_memory p m)

abbrev pub SendGives : State → Plan → List ℕ → ℕ → ℕ → ℕ → List ℕ → Sending → List ℕ → Type 0
SendGives s p m q i t payload r memory =
    (r ≡ record { answer = send_answer s p m q i t payload; state = send_state s p m q i t payload })
    × (memory ≡ send_memory s p m q i t payload)

abbrev pub ReceiveGives : State → Plan → List ℕ → ℕ → ℕ → Receiving → Type 0
ReceiveGives s p m q t r = r ≡ record { answer = look s p m q t; state = receive_state s p m q t }

-- ## The answers in document 01's numbers: the code by which the console names each kind of answer, and its values

abbrev pub started_says : Verdict → Said
started_says (Ok it) = (0x81, [])
started_says (Err r) = refused_says r

-- number, and slot within its queue
abbrev pub sent_says : Result Stored Refusal → Said
sent_says (Ok it) = (0x84, it.number.0 ∷ it.slot.0 ∷ [])
sent_says (Err r) = refused_says r

-- a message's number, and slot from the start of memory; a gap's number and sender
abbrev pub received_says : Received → Said
received_says (Received.Message n at) = (0x85, n.0 ∷ at.0 ∷ [])
received_says (Received.Gap n row) = (0x86, n.0 ∷ row ∷ [])
received_says Received.Empty = (0x87, [])
received_says (Received.Refused r) = refused_says r
