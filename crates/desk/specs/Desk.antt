-- The console's desk, line by line: what a line does to the desk and to the lent memory, and the line that answers it. A line is any
-- list of bytes. Everything below is document 01's paragraph "The console".
use Rattle.std.specs.Prelude.{◌+◌, ◌/◌, ◌%◌, ◌^◌, ◌≡◌, Ok, Err}
use Rattle.common.specs.Words.{ℕ, Bool, true, false, cond, List, [], leb, eqb, length, get_or, set, replicate, sets}
use Rattle.common.specs.Table.{table}
use Rattle.plan.specs.Limits.{task_limit, queue_limit}
use Rattle.plan.specs.Plan.{zeros}
use Rattle.plan.specs.Rules.{sound_plan}
use Rattle.planning.specs.Planning.{plan_of}
use Rattle.mailbox.specs.Calls.{fresh, start_answer, start_memory}
use Rattle.digits.specs.Hex.{is_line, bytes_in}
use Rattle.frames.specs.Frames.{frame_of, payload_in}
use Rattle.frames.specs.Answers.{sizes_bytes, refusal_bytes, bad_bytes, line_of}
use Rattle.calls.specs.CallLines.{is_call, line_call}
use Rattle.desk.specs.Types.{Plan, Refusal, Verdict, Planned, State, Frame, Desk}

-- what a line comes to: the desk and the memory after it, and the bytes of the line that answers it, none where it has no answer
pub record Turn : Type 0 where
  pub desk : Desk
  pub memory : List ℕ
  pub answer : List ℕ

abbrev pub silent : Desk → List ℕ → Turn
silent d m = record { desk = d; memory = m; answer = [] }

abbrev pub says : Desk → List ℕ → List ℕ → Turn
says d m bytes = record { desk = d; memory = m; answer = line_of bytes }

-- "is answered 7ff000", and nothing is changed
abbrev pub bad : Desk → List ℕ → Turn
bad d m = says d m bad_bytes

-- an empty table, and nothing started
abbrev pub new_desk : Desk
new_desk = record {
  tasks = 0;
  queues = 0;
  period = replicate task_limit 0;
  deadline = replicate task_limit 0;
  priority = replicate task_limit 0;
  receiver = replicate queue_limit 0;
  senders = replicate queue_limit 0;
  running = false;
  plan = zeros;
  state = fresh;
}

-- what every turn keeps of a desk: the plan that it runs is sound
pub record SoundDesk (d : Desk) : Type 0 where
  pub sound : d.running ≡ true → sound_plan d.plan ≡ true

-- ## 01 and 02: one row more, which is not answered. "01 to 03 after an accepted 03, a row beyond 16 and 8 .. is answered 7ff000"

unfoldable pub row_turn : Desk → List ℕ → Bool → Desk → Turn
row_turn d m full more = cond d.running (bad d m) (cond full (bad d m) (silent more m))

unfoldable pub with_task : Desk → ℕ → ℕ → ℕ → Desk
with_task d period deadline priority = record {
  tasks = d.tasks + 1;
  queues = d.queues;
  period = set d.period d.tasks period;
  deadline = set d.deadline d.tasks deadline;
  priority = set d.priority d.tasks priority;
  receiver = d.receiver;
  senders = d.senders;
  running = d.running;
  plan = d.plan;
  state = d.state;
}

abbrev pub task_turn : Desk → List ℕ → ℕ → ℕ → ℕ → Turn
task_turn d m period deadline priority = row_turn d m (leb task_limit d.tasks) (with_task d period deadline priority)

unfoldable pub with_queue : Desk → ℕ → ℕ → Desk
with_queue d receiver mask = record {
  tasks = d.tasks;
  queues = d.queues + 1;
  period = d.period;
  deadline = d.deadline;
  priority = d.priority;
  receiver = set d.receiver d.queues receiver;
  senders = set d.senders d.queues mask;
  running = d.running;
  plan = d.plan;
  state = d.state;
}

abbrev pub queue_turn : Desk → List ℕ → ℕ → ℕ → Turn
queue_turn d m receiver mask = row_turn d m (leb queue_limit d.queues) (with_queue d receiver mask)

-- ## 03: "plan and start"

-- "sender mask (2, bit i for task i)"
abbrev pub bit_of : ℕ → ℕ → Bool
bit_of mask i = eqb (mask / 2 ^ i % 2) 1

abbrev pub row_of : ℕ → List Bool
row_of mask = table (bit_of mask) task_limit

abbrev pub square_of : List ℕ → List (List Bool)
square_of masks = table (λ q. row_of (get_or masks q 0)) queue_limit

unfoldable pub planned : Desk → Planned
planned d = plan_of d.tasks d.queues d.period d.deadline d.priority d.receiver (square_of d.senders)

-- "7f, refusal (1), row (1)", and "A refused 03 empties the table"
abbrev pub refused_go : List ℕ → Refusal → Turn
refused_go m r = says new_desk m (refusal_bytes r)

unfoldable pub with_run : Desk → Plan → State → Desk
with_run d p s = record {
  tasks = d.tasks;
  queues = d.queues;
  period = d.period;
  deadline = d.deadline;
  priority = d.priority;
  receiver = d.receiver;
  senders = d.senders;
  running = true;
  plan = p;
  state = s;
}

-- "81 and each size (2)"
abbrev pub start_turn : Desk → Plan → List ℕ → Verdict → Turn
start_turn d p m (Ok it) = says (with_run d p fresh) (start_memory p m) (sizes_bytes p.size p.queues)
start_turn d p m (Err r) = refused_go m r

abbrev pub plan_turn : Desk → Plan → List ℕ → Verdict → Turn
plan_turn d p m (Ok it) = start_turn d p m (start_answer p m)
plan_turn d p m (Err r) = refused_go m r

unfoldable pub go_turn : Desk → List ℕ → Turn
go_turn d m = cond d.running (bad d m) (plan_turn d (planned d).plan m (planned d).answer)

-- ## 04 and 05: the calls on the desk's own plan and state

unfoldable pub with_state : Desk → State → Desk
with_state d s = record {
  tasks = d.tasks;
  queues = d.queues;
  period = d.period;
  deadline = d.deadline;
  priority = d.priority;
  receiver = d.receiver;
  senders = d.senders;
  running = d.running;
  plan = d.plan;
  state = s;
}

unfoldable pub call_turn : Desk → List ℕ → List ℕ → Frame → Turn
call_turn d m payload f =
    let c = line_call d.running d.plan d.state m payload f in
    record { desk = with_state d c.state; memory = c.memory; answer = c.answer }

-- ## A frame, and a line

-- 01 to 03; a frame that is none of them does not belong to the table
abbrev pub table_turn : Desk → List ℕ → Frame → Turn
table_turn d m (Frame.Task period deadline priority) = task_turn d m period deadline priority
table_turn d m (Frame.Queue receiver mask) = queue_turn d m receiver mask
table_turn d m Frame.Go = go_turn d m
table_turn d m (Frame.Send q i t) = bad d m
table_turn d m (Frame.Receive q t) = bad d m
table_turn d m Frame.Bad = bad d m

abbrev pub frame_turn : Desk → List ℕ → List ℕ → Frame → Turn
frame_turn d m payload f = cond (is_call f) (call_turn d m payload f) (table_turn d m f)

unfoldable pub bytes_turn : Desk → List ℕ → List ℕ → Turn
bytes_turn d m bytes = frame_turn d m (payload_in bytes) (frame_of bytes)

-- a line's bytes; a line that is no frame has none, and no bytes are no frame either
unfoldable pub framed_bytes : List ℕ → List ℕ
framed_bytes line = cond (is_line line) (bytes_in line) []

-- "A line that is none of these or over 100 digits .. is answered 7ff000"
unfoldable pub line_turn : Desk → List ℕ → List ℕ → Turn
line_turn d m line = cond (is_line line) (bytes_turn d m (bytes_in line)) (bad d m)

-- what a function that takes a turn leaves, where there is room for its answer: the desk, how many bytes were written, the memory and the
-- buffer
abbrev pub Takes : Turn → List ℕ → Desk → ℕ → List ℕ → List ℕ → Type 0
Takes t out desk written memory out' =
    (desk ≡ t.desk) × (written ≡ length t.answer) × (memory ≡ t.memory) × (out' ≡ sets out 0 t.answer)
