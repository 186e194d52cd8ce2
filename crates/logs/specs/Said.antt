-- What a line of the console says. A line that was answered is a frame; a line that answers is a code and values, read from its digits
-- alone. And beside it what the console had to say: the code and the values of the call's own answer. Law `read_back` says that they agree.
use Rattle.std.specs.Prelude.{◌+◌, ◌*◌, ◌/◌, ◌∷◌, Ok, Err}
use Rattle.common.specs.Words.{ℕ, Bool, cond, List, [], leb, eqb, length}
use Rattle.common.specs.Table.{table}
use Rattle.plan.specs.Limits.{task_limit, queue_limit}
use Rattle.plan.specs.Plan.{size_at}
use Rattle.plan.specs.Says.{Said, refused_says}
use Rattle.mailbox.specs.Calls.{start_answer, send_answer, look, sent_says}
use Rattle.digits.specs.Hex.{bytes_in}
use Rattle.digits.specs.Numbers.{value_at}
use Rattle.frames.specs.Frames.{frame_of, payload_in}
use Rattle.console.specs.Framing.{framed_bytes}
use Rattle.desk.specs.Desk.{planned}
use Rattle.logs.specs.Types.{Plan, Verdict, Received, Frame, Desk}

-- ## Of a line that was answered

abbrev pub frame_in : List ℕ → Frame
frame_in line = frame_of (framed_bytes line)

abbrev pub payload_of : List ℕ → List ℕ
payload_of line = payload_in (framed_bytes line)

-- ## Of a line that answers

-- the values behind the code, each as document 01's paragraph gives its width: "81 and each size (2); 84, number (6), slot (2, ..);
-- 85, number (6), payload; 86, number (6), sender (1); 87 empty; 7f, refusal (1), row (1)". A payload is no value, it stands as it is.
abbrev pub values_in : ℕ → List ℕ → List ℕ
values_in code bytes =
    cond (eqb code 0x81) (table (λ q. value_at bytes (1 + 2 * q) 2) (length bytes / 2))
    (cond (eqb code 0x84) (value_at bytes 1 6 ∷ value_at bytes 7 2 ∷ [])
    (cond (eqb code 0x85) (value_at bytes 1 6 ∷ [])
    (cond (eqb code 0x86) (value_at bytes 1 6 ∷ value_at bytes 7 1 ∷ [])
    (cond (eqb code 0x7f) (value_at bytes 1 1 ∷ value_at bytes 2 1 ∷ [])
    []))))

-- of no answer the code is 0
abbrev pub code_in : List ℕ → ℕ
code_in line = value_at (bytes_in line) 0 1

-- the line feed at the end of the line is no pair of digits, and says nothing
unfoldable pub said_in : List ℕ → Said
said_in line = (code_in line, values_in (code_in line) (bytes_in line))

-- ## What there was to say

abbrev pub received_told : Received → Said
received_told (Received.Message n at) = (0x85, n.0 ∷ [])
received_told (Received.Gap n row) = (0x86, n.0 ∷ row ∷ [])
received_told Received.Empty = (0x87, [])
received_told (Received.Refused r) = refused_says r

abbrev pub start_told : Plan → Verdict → Said
start_told p (Ok it) = (0x81, table (size_at p) p.queues)
start_told p (Err r) = refused_says r

abbrev pub plan_told : Plan → List ℕ → Verdict → Said
plan_told p m (Ok it) = start_told p (start_answer p m)
plan_told p m (Err r) = refused_says r

-- "is answered 7ff000"
abbrev pub bad_told : Said
bad_told = (0x7f, 0xf0 ∷ 0 ∷ [])

-- of no answer, which is what a row of 01 or 02 gets that is taken, nothing is said; "01 to 03 after an accepted 03, a row beyond 16 and 8 .. is
-- answered 7ff000"
abbrev pub nothing_told : Said
nothing_told = (0, [])

abbrev pub row_told : Desk → Bool → Said
row_told d full = cond d.running bad_told (cond full bad_told nothing_told)

-- what a frame is told on a desk and a memory
unfoldable pub frame_told : Desk → List ℕ → List ℕ → Frame → Said
frame_told d m payload (Frame.Task period deadline priority) = row_told d (leb task_limit d.tasks)
frame_told d m payload (Frame.Queue receiver mask) = row_told d (leb queue_limit d.queues)
frame_told d m payload Frame.Go = cond d.running bad_told (plan_told (planned d).plan m (planned d).answer)
frame_told d m payload (Frame.Send q i t) = cond d.running (sent_says (send_answer d.state d.plan m q i t.0 payload)) bad_told
frame_told d m payload (Frame.Receive q t) = cond d.running (received_told (look d.state d.plan m q t.0)) bad_told
frame_told d m payload Frame.Bad = bad_told
