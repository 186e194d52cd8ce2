-- Frames 04 and 05: what a call's line does to a state and to the lent memory, and the line that answers it. They are the calls of the
-- mailbox, on the plan and the state that the console keeps.
use Rattle.std.specs.Prelude.{Result, Ok, Err}
use Rattle.common.specs.Words.{ℕ, Bool, true, false, cond, List, replicate}
use Rattle.plan.specs.Limits.{payload_bytes}
use Rattle.mailbox.specs.Calls.{send_answer, send_state, send_memory, look, receive_state}
use Rattle.running.specs.View.{view_of}
use Rattle.frames.specs.Answers.{stored_bytes, message_bytes, gap_bytes, empty_bytes, refusal_bytes, bad_bytes, line_of}
use Rattle.calls.specs.Types.{Tick, Plan, Refusal, State, Stored, Received, Frame}

-- 04, 05 and a frame that means nothing leave the table alone
abbrev pub is_call : Frame → Bool
is_call (Frame.Task period deadline priority) = false
is_call (Frame.Queue receiver mask) = false
is_call Frame.Go = false
is_call (Frame.Send q i t) = true
is_call (Frame.Receive q t) = true
is_call Frame.Bad = true

abbrev pub sent_bytes : Result Stored Refusal → List ℕ
sent_bytes (Ok it) = stored_bytes it.number.0 it.slot.0
sent_bytes (Err r) = refusal_bytes r

-- what a call's line comes to: the state and the memory after it, and the bytes of the line that answers it
pub record CallDone : Type 0 where
  pub state : State
  pub memory : List ℕ
  pub answer : List ℕ

-- 7ff000, and nothing is changed
abbrev pub unmoved : State → List ℕ → CallDone
unmoved s m = record { state = s; memory = m; answer = line_of bad_bytes }

abbrev pub send_call : Plan → State → List ℕ → ℕ → ℕ → Tick → List ℕ → CallDone
send_call p s m q i t payload = record {
  state = send_state s p m q i t.0 payload;
  memory = send_memory s p m q i t.0 payload;
  answer = line_of (sent_bytes (send_answer s p m q i t.0 payload));
}

-- the payload of a message is what its view shows; the filler's bytes are never written
abbrev pub filler : List ℕ
filler = replicate payload_bytes 0

abbrev pub received_bytes : List ℕ → Received → List ℕ
received_bytes m (Received.Message n s) = message_bytes n.0 (view_of (Received.Message n s) m filler)
received_bytes m (Received.Gap n i) = gap_bytes n.0 i
received_bytes m Received.Empty = empty_bytes
received_bytes m (Received.Refused r) = refusal_bytes r

abbrev pub receive_call : Plan → State → List ℕ → ℕ → Tick → CallDone
receive_call p s m q t = record {
  state = receive_state s p m q t.0;
  memory = m;
  answer = line_of (received_bytes m (look s p m q t.0));
}

-- any other frame is no call
abbrev pub call_of : Plan → State → List ℕ → List ℕ → Frame → CallDone
call_of p s m payload (Frame.Task period deadline priority) = unmoved s m
call_of p s m payload (Frame.Queue receiver mask) = unmoved s m
call_of p s m payload Frame.Go = unmoved s m
call_of p s m payload (Frame.Send q i t) = send_call p s m q i t payload
call_of p s m payload (Frame.Receive q t) = receive_call p s m q t
call_of p s m payload Frame.Bad = unmoved s m

-- "04 and 05 before an accepted 03, is answered 7ff000"
abbrev pub line_call : Bool → Plan → State → List ℕ → List ℕ → Frame → CallDone
line_call runs p s m payload f = cond runs (call_of p s m payload f) (unmoved s m)
