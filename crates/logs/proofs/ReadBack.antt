-- One law over all answers: a line of the console, read from its digits alone, says the code and every value of the answer that it was written
-- for. No number is cut to 6 bytes, no slot or size to 2, no sender, refusal or row to 1. It holds on every desk, memory and line.
use Rattle.std.specs.Prelude.{◌≤◌, ◌≡◌, Result, Ok, Err}
use Rattle.common.specs.Words.{ℕ, Bool, true, false, cond, List, arith, refl, leb}
use Rattle.plan.specs.Limits.{task_limit, queue_limit, last_tick}
use Rattle.plan.specs.Says.{Said}
use Rattle.mailbox.specs.Calls.{start_answer, send_answer, look, sent_says}
use Rattle.running.specs.View.{view_of}
use Rattle.digits.specs.Numbers.{value_at, in_bytes}
use Rattle.digits.specs.NumberLaws.{value_back}
use Rattle.frames.specs.Answers.{line_of}
use Rattle.desk.specs.Desk.{Turn, silent, bad, row_turn, with_task, with_queue, planned, square_of, start_turn, plan_turn, go_turn, line_turn}
use Rattle.calls.specs.CallLines.{sent_bytes, filler, received_bytes}
use Rattle.logs.specs.Types.{Plan, Refusal, Verdict, Stored, Received, Frame, Desk}
use Rattle.logs.specs.Said.{frame_in, payload_of, said_in, received_told, start_told, plan_told, bad_told, nothing_told, row_told, frame_told}
use Rattle.logs.proofs.Lines.{stored_back, gap_back, message_back, empty_back, bad_back, nothing_back, refusal_back, sizes_back}
use Rattle.logs.proofs.Frames.{turn_of, line_turn_lem}
use Rattle.logs.proofs.Widths.{SentFits, ReceivedFits, StartedFits, send_fits, receive_fits, start_fits, planning_fits}

pub sent_back : (a : Result Stored Refusal) → SentFits a → said_in (line_of (sent_bytes a)) ≡ sent_says a
sent_back (Ok it) h = stored_back it.number.0 it.slot.0 h.0 h.1
sent_back (Err r) h = refusal_back r h

pub received_back : (m : List ℕ) (a : Received) → ReceivedFits a → said_in (line_of (received_bytes m a)) ≡ received_told a
received_back m (Received.Message n at) h = message_back n.0 (view_of (Received.Message n at) m filler) h
received_back m (Received.Gap n row) h = gap_back n.0 row h.0 h.1
received_back m Received.Empty h = empty_back
received_back m (Received.Refused r) h = refusal_back r h

-- the line that answers a turn says this
abbrev Tells : Turn → Said → Type 0
Tells t s = said_in t.answer ≡ s

tells_if : (b : Bool) (t u : Turn) (x y : Said) → Tells t x → Tells u y → Tells (cond b t u) (cond b x y)
tells_if true t u x y h g = h
tells_if false t u x y h g = g

row_tells : (d : Desk) (m : List ℕ) (full : Bool) (more : Desk) → Tells (row_turn d m full more) (row_told d full)
unfolding row_turn
row_tells d m full more =
    tells_if d.running (bad d m) _ bad_told _ bad_back (tells_if full (bad d m) (silent more m) bad_told nothing_told bad_back nothing_back)

start_tells : (d : Desk) (p : Plan) (m : List ℕ) (a : Verdict) → StartedFits p a → Tells (start_turn d p m a) (start_told p a)
start_tells d p m (Ok it) h = sizes_back p.size p.queues h
start_tells d p m (Err r) h = refusal_back r h

plan_tells : (d : Desk) (m : List ℕ) (a : Verdict) → (planned d).answer ≡ a →
    Tells (plan_turn d (planned d).plan m a) (plan_told (planned d).plan m a)
unfolding planned
plan_tells d m (Ok it) e = start_tells d (planned d).plan m (start_answer (planned d).plan m) (start_fits (planned d).plan m _ refl)
plan_tells d m (Err r) e =
    refusal_back r (planning_fits d.tasks d.queues d.period d.deadline d.priority d.receiver (square_of d.senders) r e)

frame_tells : (d : Desk) (m payload : List ℕ) (f : Frame) → Tells (turn_of d m payload f) (frame_told d m payload f)
unfolding go_turn frame_told
frame_tells d m payload (Frame.Task period deadline priority) = row_tells d m (leb task_limit d.tasks) (with_task d period deadline priority)
frame_tells d m payload (Frame.Queue receiver mask) = row_tells d m (leb queue_limit d.queues) (with_queue d receiver mask)
frame_tells d m payload Frame.Go = tells_if d.running (bad d m) _ bad_told _ bad_back (plan_tells d m (planned d).answer refl)
frame_tells d m payload (Frame.Send q i t) =
    tells_if d.running _ (bad d m) _ bad_told
    (sent_back (send_answer d.state d.plan m q i t.0 payload) (send_fits d.state d.plan m q i t.0 payload _ refl))
    bad_back
frame_tells d m payload (Frame.Receive q t) =
    tells_if d.running _ (bad d m) _ bad_told
    (received_back m (look d.state d.plan m q t.0) (receive_fits d.state d.plan m q t.0 _ refl))
    bad_back
frame_tells d m payload Frame.Bad = bad_back

pub read_back : (d : Desk) (m line : List ℕ) → said_in (line_turn d m line).answer ≡ frame_told d m (payload_of line) (frame_in line)
read_back d m line = rw (line_turn_lem d m line) (frame_tells d m (payload_of line) (frame_in line))

-- No answer writes a tick. The 5 bytes that a 04 and a 05 have for one hold every tick up to the last.
pub tick_back : (t : ℕ) → t ≤ last_tick → value_at (in_bytes 5 t) 0 5 ≡ t
tick_back t h = value_back 5 t (omega arith)
