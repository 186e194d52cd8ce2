-- No answer of the console is longer than 64 bytes.
use Rattle.std.specs.Prelude.{◌≤◌, ◌≡◌, Result, Ok, Err}
use Rattle.common.specs.Words.{ℕ, arith, Bool, true, false, cond, List, refl, length, length-append}
use Rattle.plan.specs.Limits.{payload_bytes}
use Rattle.mailbox.specs.Calls.{start_answer, send_answer, look}
use Rattle.running.specs.View.{view_of}
use Rattle.digits.specs.Hex.{is_line, bytes_in}
use Rattle.digits.specs.NumberLaws.{bytes_length}
use Rattle.frames.specs.Frames.{frame_of, payload_in}
use Rattle.frames.specs.Writing.{line_length, sizes_length}
use Rattle.frames.specs.Answers.{longest_answer, sizes_bytes, stored_bytes, message_bytes, gap_bytes, empty_bytes, refusal_bytes, bad_bytes, line_of}
use Rattle.console.specs.Types.{Plan, Refusal, Verdict, State, Stored, Received, Frame, Desk}
use Rattle.desk.specs.Desk.{Turn, silent, bad, row_turn, planned, start_turn, plan_turn, go_turn, frame_turn, bytes_turn, line_turn, call_turn}
use Rattle.desk.specs.Desk.{table_turn}
use Rattle.calls.specs.CallLines.{sent_bytes, filler, received_bytes, unmoved, call_of, line_call, is_call}
use Rattle.desk.specs.Starts.{started_queues}
use Rattle.calls.specs.Leaves.{view_short}

-- ## An answer's bytes, at most 31: their digits and the line feed are 63

abbrev Few : List ℕ → Type 0
Few bytes = length bytes ≤ 31

few_bad : Few bad_bytes
unfolding bad_bytes
few_bad = omega (arith, bytes_length 3 0x7ff000)

few_refusal : (r : Refusal) → Few (refusal_bytes r)
unfolding refusal_bytes
few_refusal r = simp (length-append, bytes_length) (omega arith)

few_sent : (s : Result Stored Refusal) → Few (sent_bytes s)
unfolding stored_bytes
few_sent (Ok it) = simp (length-append, bytes_length) (omega arith)
few_sent (Err r) = few_refusal r

few_received : (m : List ℕ) (a : Received) → Few (received_bytes m a)
unfolding message_bytes gap_bytes empty_bytes
few_received m (Received.Message n s) =
    let v : length (view_of (Received.Message n s) m filler) ≤ payload_bytes = view_short (Received.Message n s) m in
    simp (length-append, bytes_length) (omega arith)
few_received m (Received.Gap n i) = simp (length-append, bytes_length) (omega arith)
few_received m Received.Empty = simp bytes_length (omega arith)
few_received m (Received.Refused r) = few_refusal r

few_sizes : (sizes : List ℕ) (n : ℕ) → n ≤ 8 → Few (sizes_bytes sizes n)
unfolding sizes_bytes
few_sizes sizes n h = simp (length-append, bytes_length, sizes_length) (omega arith)

-- ## A turn's answer

abbrev Short : Turn → Type 0
Short t = length t.answer ≤ longest_answer

short_line : (bytes : List ℕ) → Few bytes → length (line_of bytes) ≤ longest_answer
short_line bytes h = omega (arith, line_length bytes)

short_bad : (d : Desk) (m : List ℕ) → Short (bad d m)
short_bad d m = short_line bad_bytes few_bad

short_if : (b : Bool) (s t : Turn) → Short s → Short t → Short (cond b s t)
short_if true s t a b = a
short_if false s t a b = b

short_row : (d : Desk) (m : List ℕ) (full : Bool) (more : Desk) → Short (row_turn d m full more)
unfolding row_turn
short_row d m full more =
    short_if d.running (bad d m) (cond full (bad d m) (silent more m)) (short_bad d m)
    (short_if full (bad d m) (silent more m) (short_bad d m) (omega arith))

short_start : (d : Desk) (p : Plan) (m : List ℕ) (s : Verdict) → start_answer p m ≡ s → Short (start_turn d p m s)
short_start d p m (Ok it) e = short_line (sizes_bytes p.size p.queues) (few_sizes p.size p.queues (started_queues p m e))
short_start d p m (Err r) e = short_line (refusal_bytes r) (few_refusal r)

short_plan : (d : Desk) (p : Plan) (m : List ℕ) (a : Verdict) → Short (plan_turn d p m a)
short_plan d p m (Ok it) = short_start d p m (start_answer p m) refl
short_plan d p m (Err r) = short_line (refusal_bytes r) (few_refusal r)

short_unmoved : (s : State) (m : List ℕ) → length (unmoved s m).answer ≤ longest_answer
short_unmoved s m = short_line bad_bytes few_bad

short_call : (p : Plan) (s : State) (m payload : List ℕ) (f : Frame) → length (call_of p s m payload f).answer ≤ longest_answer
short_call p s m payload (Frame.Task period deadline priority) = short_unmoved s m
short_call p s m payload (Frame.Queue receiver mask) = short_unmoved s m
short_call p s m payload Frame.Go = short_unmoved s m
short_call p s m payload (Frame.Send q i t) =
    short_line (sent_bytes (send_answer s p m q i t.0 payload)) (few_sent (send_answer s p m q i t.0 payload))
short_call p s m payload (Frame.Receive q t) = short_line (received_bytes m (look s p m q t.0)) (few_received m (look s p m q t.0))
short_call p s m payload Frame.Bad = short_unmoved s m

short_lined : (runs : Bool) (p : Plan) (s : State) (m payload : List ℕ) (f : Frame) →
    length (line_call runs p s m payload f).answer ≤ longest_answer
short_lined true p s m payload f = short_call p s m payload f
short_lined false p s m payload f = short_unmoved s m

short_table : (d : Desk) (m : List ℕ) (f : Frame) → Short (table_turn d m f)
unfolding go_turn
short_table d m (Frame.Task period deadline priority) = short_row d m _ _
short_table d m (Frame.Queue receiver mask) = short_row d m _ _
short_table d m Frame.Go = short_if d.running (bad d m) _ (short_bad d m) (short_plan d (planned d).plan m (planned d).answer)
short_table d m (Frame.Send q i t) = short_bad d m
short_table d m (Frame.Receive q t) = short_bad d m
short_table d m Frame.Bad = short_bad d m

short_frame : (d : Desk) (m payload : List ℕ) (f : Frame) → Short (frame_turn d m payload f)
unfolding call_turn
short_frame d m payload f =
    short_if (is_call f) (call_turn d m payload f) (table_turn d m f) (short_lined d.running d.plan d.state m payload f) (short_table d m f)

pub answer_fits : (d : Desk) (m line : List ℕ) → length (line_turn d m line).answer ≤ longest_answer
unfolding line_turn bytes_turn
answer_fits d m line =
    short_if (is_line line) (bytes_turn d m (bytes_in line)) (bad d m) (short_frame d m (payload_in (bytes_in line)) (frame_of (bytes_in line)))
    (short_bad d m)
