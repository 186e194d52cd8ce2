-- The turn of a line, case by case: what the proofs of this crate know of the console's own definition, and all that they know of it.
use Rattle.std.specs.Prelude.{◌≡◌}
use Rattle.common.specs.Words.{ℕ, Bool, true, false, cond, List, refl, ◌∙◌}
use Rattle.mailbox.specs.Calls.{send_answer, send_state, send_memory, look, receive_state}
use Rattle.console.specs.Framing.{line_framed}
use Rattle.desk.specs.Desk.{Turn, says, bad, task_turn, queue_turn, go_turn, with_state, call_turn, frame_turn, bytes_turn, line_turn}
use Rattle.calls.specs.CallLines.{CallDone, sent_bytes, received_bytes, call_of, line_call}
use Rattle.logs.specs.Types.{Tick, Frame, Desk}
use Rattle.logs.specs.Said.{frame_in, payload_of}

abbrev pub sending : Desk → List ℕ → ℕ → ℕ → Tick → List ℕ → Turn
sending d m q i t payload =
    says (with_state d (send_state d.state d.plan m q i t.0 payload)) (send_memory d.state d.plan m q i t.0 payload)
    (sent_bytes (send_answer d.state d.plan m q i t.0 payload))

abbrev pub receiving : Desk → List ℕ → ℕ → Tick → Turn
receiving d m q t = says (with_state d (receive_state d.state d.plan m q t.0)) m (received_bytes m (look d.state d.plan m q t.0))

abbrev pub turn_of : Desk → List ℕ → List ℕ → Frame → Turn
turn_of d m payload (Frame.Task period deadline priority) = task_turn d m period deadline priority
turn_of d m payload (Frame.Queue receiver mask) = queue_turn d m receiver mask
turn_of d m payload Frame.Go = go_turn d m
turn_of d m payload (Frame.Send q i t) = cond d.running (sending d m q i t payload) (bad d m)
turn_of d m payload (Frame.Receive q t) = cond d.running (receiving d m q t) (bad d m)
turn_of d m payload Frame.Bad = bad d m

-- a call's turn, whether the desk runs or not
abbrev called : Desk → CallDone → Turn
called d c = record { desk = with_state d c.state; memory = c.memory; answer = c.answer }

call_turn_lem : (d : Desk) (m payload : List ℕ) (f : Frame) (b : Bool) →
    called d (line_call b d.plan d.state m payload f) ≡ cond b (called d (call_of d.plan d.state m payload f)) (bad d m)
unfolding with_state
call_turn_lem d m payload f true = refl
call_turn_lem d m payload f false = refl

either : {A : Type 0} (b : Bool) (x : A) → cond b x x ≡ x
either true x = refl
either false x = refl

frame_turn_lem : (d : Desk) (m payload : List ℕ) (f : Frame) → frame_turn d m payload f ≡ turn_of d m payload f
unfolding call_turn with_state
frame_turn_lem d m payload (Frame.Task period deadline priority) = refl
frame_turn_lem d m payload (Frame.Queue receiver mask) = refl
frame_turn_lem d m payload Frame.Go = refl
frame_turn_lem d m payload (Frame.Send q i t) = call_turn_lem d m payload (Frame.Send q i t) d.running
frame_turn_lem d m payload (Frame.Receive q t) = call_turn_lem d m payload (Frame.Receive q t) d.running
frame_turn_lem d m payload Frame.Bad = call_turn_lem d m payload Frame.Bad d.running ∙ either d.running (bad d m)

pub line_turn_lem : (d : Desk) (m line : List ℕ) → line_turn d m line ≡ turn_of d m (payload_of line) (frame_in line)
unfolding bytes_turn
line_turn_lem d m line = line_framed d m line ∙ frame_turn_lem d m (payload_of line) (frame_in line)
