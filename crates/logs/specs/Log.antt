-- A log of the console: each line that was fed, with the line that answered it. What a reader of the log finds in it, from the digits of its
-- lines and the plan alone: the messages that were stored, what each receiving job was told, and whether it read to its end.
use Rattle.std.specs.Prelude.{◌&&◌, ◌||◌, ◌∷◌, ◌++◌, ◌⊎◌, ◌≡◌}
use Rattle.common.specs.Words.{ℕ, Bool, false, cond, List, [], eqb}
use Rattle.model.specs.Model.{sender_of}
use Rattle.plan.specs.Limits.{last_tick}
use Rattle.plan.specs.Plan.{queue_at}
use Rattle.mailbox.specs.Calls.{receiving_job}
use Rattle.history.specs.History.{Call, send, receive}
use Rattle.frames.specs.Answers.{message_bytes, gap_bytes, line_of}
use Rattle.desk.specs.Desk.{new_desk}
use Rattle.feed.specs.Answers.{Console, next, reply, console_after}
use Rattle.logs.specs.Types.{Tick, Plan, Frame, Desk}
use Rattle.logs.specs.Said.{frame_in, payload_of, code_in, said_in}

pub record Entry : Type 0 where
  pub line : List ℕ
  pub answer : List ℕ

abbrev pub Log : Type 0
Log = List Entry

-- the log of lines that are answered one after another
unfoldable pub log_of : Console → List (List ℕ) → Log
log_of w [] = []
log_of w (l ∷ ls) = record { line = l; answer = reply w l } ∷ log_of (next w l) ls

-- what was written: the answers, one behind the other
unfoldable pub written : Log → List ℕ
written [] = []
written (e ∷ es) = e.answer ++ written es

-- the console that a session of the program begins with: a new desk, and bytes of any kind in the memory
abbrev pub opened : List ℕ → Console
opened m = record { desk = new_desk; memory = m }

-- the log of a session, and the desk that it leaves
abbrev pub session_log : List ℕ → List (List ℕ) → Log
session_log m lines = log_of (opened m) lines

abbrev pub desk_after : List ℕ → List (List ℕ) → Desk
desk_after m lines = (console_after (opened m) lines).desk

-- the line is an 03, and it is answered 81
pub record Accepts (e : Entry) : Type 0 where
  pub asked : frame_in e.line ≡ Frame.Go
  pub told : code_in e.answer ≡ 0x81

-- some line of the log is such a one
abbrev pub AcceptedIn : Log → Type 0
AcceptedIn [] = ⊥
AcceptedIn (e ∷ es) = Accepts e ⊎ AcceptedIn es

-- two desks with the same rows of 01 and 02
pub record SameTable (a b : Desk) : Type 0 where
  pub tasks : a.tasks ≡ b.tasks
  pub queues : a.queues ≡ b.queues
  pub period : a.period ≡ b.period
  pub deadline : a.deadline ≡ b.deadline
  pub priority : a.priority ≡ b.priority
  pub receiver : a.receiver ≡ b.receiver
  pub senders : a.senders ≡ b.senders

-- ## The calls

-- the call that a line makes on a desk that runs; any other line makes none
abbrev pub call_made : List ℕ → Frame → List Call
call_made payload (Frame.Send q i t) = send q i t.0 payload ∷ []
call_made payload (Frame.Receive q t) = receive q t.0 ∷ []
call_made payload (Frame.Task period deadline priority) = []
call_made payload (Frame.Queue receiver mask) = []
call_made payload Frame.Go = []
call_made payload Frame.Bad = []

-- the calls of lines, one after another
abbrev pub calls_in : List (List ℕ) → List Call
calls_in [] = []
calls_in (l ∷ ls) = call_made (payload_of l) (frame_in l) ++ calls_in ls

-- ## What was stored

-- the line is a 04 on queue q with this payload, and it is answered 84 with number n
pub record Stores (q n : ℕ) (payload : List ℕ) (e : Entry) : Type 0 where
  pub task : ℕ
  pub tick : Tick
  pub slot : ℕ
  pub asked : frame_in e.line ≡ Frame.Send q task tick
  pub carried : payload_of e.line ≡ payload
  pub told : said_in e.answer ≡ (0x84, n ∷ slot ∷ [])

-- some line of the log is such a one
abbrev pub StoredIn : Log → ℕ → ℕ → List ℕ → Type 0
StoredIn [] q n payload = ⊥
StoredIn (e ∷ es) q n payload = Stores q n payload e ⊎ StoredIn es q n payload

-- ## What a job was told

-- the line is a 05 on queue q at a tick of job k of its receiver
abbrev pub asks : Plan → ℕ → ℕ → Frame → Bool
asks p q k (Frame.Receive r t) = eqb r q && eqb (receiving_job (queue_at p q) t.0) k
asks p q k (Frame.Task period deadline priority) = false
asks p q k (Frame.Queue receiver mask) = false
asks p q k Frame.Go = false
asks p q k (Frame.Send r i t) = false
asks p q k Frame.Bad = false

-- the answer is an 85 or an 86
abbrev pub tells : ℕ → Bool
tells code = eqb code 0x85 || eqb code 0x86

-- the lines 85 and 86 of queue q that job k got, in the order of the log
unfoldable pub lines_to : Plan → ℕ → ℕ → Log → List (List ℕ)
lines_to p q k [] = []
lines_to p q k (e ∷ es) = cond (asks p q k (frame_in e.line) && tells (code_in e.answer)) (e.answer ∷ lines_to p q k es) (lines_to p q k es)

-- the line is a 05 on queue q at a tick of job k, and it is answered 87
pub record Ends (p : Plan) (q k : ℕ) (e : Entry) : Type 0 where
  pub tick : Tick
  pub asked : frame_in e.line ≡ Frame.Receive q tick
  pub job : receiving_job (queue_at p q) tick.0 ≡ k
  pub told : code_in e.answer ≡ 0x87

-- some line of the log is such a one: the job has read to its end
abbrev pub EndedIn : Plan → ℕ → ℕ → Log → Type 0
EndedIn p q k [] = ⊥
EndedIn p q k (e ∷ es) = Ends p q k e ⊎ EndedIn p q k es

-- ## What it ought to be told

-- The right line for number n of queue q, where S says what was stored: 85, the number and the payload of the 04 that stored it; or 86,
-- the number and its sender's row, where nothing was stored.
pub data RightLine (p : Plan) (q : ℕ) (S : ℕ → List ℕ → Type 0) : ℕ → List ℕ → Type 0 where
  as_stored : {n : ℕ} {payload : List ℕ} → S n payload → RightLine p q S n (line_of (message_bytes n payload))
  nothing_stored : {n : ℕ} → ((payload : List ℕ) → ¬ S n payload) →
      RightLine p q S n (line_of (gap_bytes n (sender_of (queue_at p q) last_tick n)))

-- one by one, the lines are the right ones for the numbers
abbrev pub RightLines : Plan → ℕ → (ℕ → List ℕ → Type 0) → List ℕ → List (List ℕ) → Type 0
RightLines p q S [] [] = Unit {0}
RightLines p q S [] (l ∷ ls) = ⊥
RightLines p q S (n ∷ ns) [] = ⊥
RightLines p q S (n ∷ ns) (l ∷ ls) = RightLine p q S n l × RightLines p q S ns ls

-- the line is one of the list
abbrev pub AmongLines : List ℕ → List (List ℕ) → Type 0
AmongLines l [] = ⊥
AmongLines l (x ∷ xs) = (l ≡ x) ⊎ AmongLines l xs
