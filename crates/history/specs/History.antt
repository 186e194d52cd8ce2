-- Histories of calls: what a history is, the state and memory that it leaves, what was sent in it, and what each receiving job was
-- answered. Every answer, state and memory here is the one that the contracts of start, send, receive and view cite.
-- A history begins with one accepted start, `Begins p m`, and has none after it. It grows at its end, so a statement over
-- every history is one over every call of every sequence of calls.
use Rattle.std.specs.Prelude.{◌-◌, ◌&&◌, ◌∷◌, ◌++◌, ◌⊎◌, ◌≡◌, Result}
use Rattle.common.specs.Words.{ℕ, zero, suc, cond, List, [], eqb}
use Rattle.calendar.specs.Calendar.{message, slot}
use Rattle.history.specs.Types.{Slot, Plan, Refusal, clear, State, Stored, Received}
use Rattle.model.specs.Model.{Queue, first, last, sender_of}
use Rattle.plan.specs.Limits.{last_tick}
use Rattle.plan.specs.Plan.{queue_at}
use Rattle.mailbox.specs.Calls.{fresh, start_answer, start_memory, send_answer, send_state, send_memory, look, receive_state, receiving_job, slot_for}
use Rattle.mailbox.specs.Calls.{stored_as}
use Rattle.running.specs.View.{view_of}

-- ## Calls

-- Any call with any arguments: queue q, task i, tick t, job k, message number n. The three lookups and the view change nothing.
pub data Call : Type 0 where
  send : (q i t : ℕ) (payload : List ℕ) → Call
  receive : (q t : ℕ) → Call
  ask_number : (q i k : ℕ) → Call
  ask_way_back : (q n : ℕ) → Call
  ask_window : (q k : ℕ) → Call
  ask_view : (answer : Received) (filler : List ℕ) → Call

-- what one call hands to the next; the plan stays as it is
pub record World : Type 0 where
  pub state : State
  pub memory : List ℕ

-- A start on plan p and memory m is accepted, whatever bytes lie in the memory.
pub record Begins (p : Plan) (m : List ℕ) : Type 0 where
  pub ready : start_answer p m ≡ clear

abbrev pub begun : Plan → List ℕ → World
begun p m = record { state = fresh; memory = start_memory p m }

abbrev pub send_says : Plan → World → ℕ → ℕ → ℕ → List ℕ → Result Stored Refusal
send_says p w q i t payload = send_answer w.state p w.memory q i t payload

abbrev pub receive_says : Plan → World → ℕ → ℕ → Received
receive_says p w q t = look w.state p w.memory q t

unfoldable pub after : Plan → World → Call → World
after p w (send q i t payload) = record {
  state = send_state w.state p w.memory q i t payload;
  memory = send_memory w.state p w.memory q i t payload;
}
after p w (receive q t) = record { state = receive_state w.state p w.memory q t; memory = w.memory }
after p w (ask_number q i k) = w
after p w (ask_way_back q n) = w
after p w (ask_window q k) = w
after p w (ask_view answer filler) = w

-- ## Histories

-- the calls after the start, in the order in which they came: `start then send 0 1 3 payload then receive 0 10`
pub data History : Type 0 where
  start : History
  ◌then◌ : History → Call → History

infixl 30 ◌then◌
-- what a history leaves, on plan p and memory that was m before the start
abbrev pub world : Plan → List ℕ → History → World
world p m start = begun p m
world p m (H then c) = after p (world p m H) c

-- K is H, or H and then some calls more
infix 20 ◌⊑◌
pub data ◌⊑◌ (H : History) : History → Type 0 where
  same : H ⊑ H
  more : {K : History} {c : Call} → H ⊑ K → H ⊑ (K then c)

-- the history of the calls in a list
abbrev pub go_on : History → List Call → History
go_on H [] = H
go_on H (c ∷ cs) = go_on (H then c) cs

abbrev pub history : List Call → History
history cs = go_on start cs

-- ## What was sent

-- the call is a send on queue q of this payload, and it is accepted as message n
pub data Sends (p : Plan) (w : World) : Call → ℕ → ℕ → List ℕ → Type 0 where
  accepted_as : {q i t n : ℕ} {payload : List ℕ} {s : Slot} → send_says p w q i t payload ≡ stored_as (message n) s →
      Sends p w (send q i t payload) q n payload

-- somewhere in the history a send on queue q of this payload was accepted as message n
abbrev pub SentIn : Plan → List ℕ → History → ℕ → ℕ → List ℕ → Type 0
SentIn p m start q n payload = ⊥
SentIn p m (H then c) q n payload = SentIn p m H q n payload ⊎ Sends p (world p m H) c q n payload

-- ## What was read

-- the number that an answer tells, a message's or a gap's
pub data Tells : Received → ℕ → Type 0 where
  of_message : {n : ℕ} {s : Slot} → Tells (Received.Message (message n) s) n
  of_gap : {n row : ℕ} → Tells (Received.Gap (message n) row) n

-- One reading: the answer, and the bytes that its view shows at that moment.
pub record Reading : Type 0 where
  pub answer : Received
  pub shown : List ℕ

-- an answer that tells a number is a reading; an empty one and a refusal are none
abbrev pub readings : Received → List ℕ → List ℕ → List Reading
readings (Received.Message n s) m filler = record { answer = Received.Message n s; shown = view_of (Received.Message n s) m filler } ∷ []
readings (Received.Gap n row) m filler = record { answer = Received.Gap n row; shown = view_of (Received.Gap n row) m filler } ∷ []
readings Received.Empty m filler = []
readings (Received.Refused r) m filler = []

-- what the call gives job k of queue q's receiver to read, with this filler for the view
abbrev pub reads : Plan → List ℕ → World → Call → ℕ → ℕ → List Reading
reads p filler w (receive r t) q k =
    cond (eqb r q && eqb (receiving_job (queue_at p q) t) k) (readings (receive_says p w r t) w.memory filler) []
reads p filler w (send r i t payload) q k = []
reads p filler w (ask_number r i j) q k = []
reads p filler w (ask_way_back r n) q k = []
reads p filler w (ask_window r j) q k = []
reads p filler w (ask_view answer other) q k = []

-- all that job k of queue q's receiver read in the history, in order
abbrev pub read_by : Plan → List ℕ → List ℕ → History → ℕ → ℕ → List Reading
read_by p m filler start q k = []
read_by p m filler (H then c) q k = read_by p m filler H q k ++ reads p filler (world p m H) c q k

abbrev pub number_told : Received → ℕ
number_told (Received.Message n s) = n.0
number_told (Received.Gap n row) = n.0
number_told Received.Empty = 0
number_told (Received.Refused r) = 0

-- the numbers of readings
abbrev pub numbers : List Reading → List ℕ
numbers [] = []
numbers (r ∷ rs) = number_told r.answer ∷ numbers rs

-- n numbers from a on, and all the numbers of the window of job k of a queue's receiver
abbrev pub up_from : ℕ → ℕ → List ℕ
up_from a zero = []
up_from a (suc n) = a ∷ up_from (suc a) n

abbrev pub window_numbers : Queue → ℕ → List ℕ
window_numbers q k = up_from (first q k) (suc (last q k) - first q k)

-- A reading of queue q is fair when it says what was sent: S says which messages were sent, and with which payload. A message is read with
-- its number, its slot and the bytes that were sent; a gap has the number of a message that was not sent, and names its sender.
pub data Fair (p : Plan) (q : ℕ) (filler : List ℕ) (S : ℕ → List ℕ → Type 0) : Reading → Type 0 where
  as_sent : {n : ℕ} {payload : List ℕ} → S n payload →
      Fair p q filler S (record { answer = Received.Message (message n) (slot (slot_for p q n)); shown = payload })
  nothing_sent : {n : ℕ} → ((payload : List ℕ) → ¬ S n payload) →
      Fair p q filler S (record { answer = Received.Gap (message n) (sender_of (queue_at p q) last_tick n); shown = filler })

abbrev pub AllFair : Plan → ℕ → List ℕ → (ℕ → List ℕ → Type 0) → List Reading → Type 0
AllFair p q filler S [] = Unit {0}
AllFair p q filler S (r ∷ rs) = Fair p q filler S r × AllFair p q filler S rs

-- the reading is one of the list
abbrev pub Among : Reading → List Reading → Type 0
Among r [] = ⊥
Among r (x ∷ xs) = (r ≡ x) ⊎ Among r xs

-- somewhere in the history job k of queue q's receiver was answered empty
pub record ReadToEnd (p : Plan) (m : List ℕ) (H : History) (q k : ℕ) : Type 0 where
  pub before : History
  pub t : ℕ
  pub within : (before then receive q t) ⊑ H
  pub job : receiving_job (queue_at p q) t ≡ k
  pub answer : receive_says p (world p m before) q t ≡ Received.Empty

-- ## Accepted calls

-- a send or a receive that is not refused
pub data AcceptedCall (p : Plan) (w : World) : Call → Type 0 where
  stores : {q i t n : ℕ} {payload : List ℕ} {s : Slot} → send_says p w q i t payload ≡ stored_as (message n) s →
      AcceptedCall p w (send q i t payload)
  tells : {q t n : ℕ} → Tells (receive_says p w q t) n → AcceptedCall p w (receive q t)
  empty : {q t : ℕ} → receive_says p w q t ≡ Received.Empty → AcceptedCall p w (receive q t)

-- every call of the history is such a one
abbrev pub AllAccepted : Plan → List ℕ → History → Type 0
AllAccepted p m start = Unit {0}
AllAccepted p m (H then c) = AllAccepted p m H × AcceptedCall p (world p m H) c
