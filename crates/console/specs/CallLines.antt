-- Frames 04 and 05 on the desk: a call that the code took on the desk's plan and state is the desk's turn.
use Rattle.std.specs.Prelude.{◌≡◌}
use Rattle.common.specs.Words.{ℕ, Bool, true, false, List, refl, sym, ◌∙◌}
use Rattle.frames.specs.Frames.{frame_of, payload_in}
use Rattle.calls.specs.CallLines.{is_call, line_call}
use Rattle.calls.specs.Leaves.{Leaves}
use Rattle.console.specs.Types.{State, Frame, Desk}
use Rattle.desk.specs.Desk.{call_turn, with_state, table_turn, bytes_turn, Takes}
use Rattle.desk.specs.Turns.{frame_taken}

-- the desk's turn
pub turn_left : (d : Desk) (m payload out : List ℕ) (f : Frame) {s : State} {n : ℕ} {memory out' : List ℕ} →
    Leaves (line_call d.running d.plan d.state m payload f) out s n memory out' →
    Takes (call_turn d m payload f) out (with_state d s) n memory out'
unfolding call_turn
turn_left d m payload out f e = rw e.0 (refl, e.1, e.2, e.3)

-- and so the turn of a line's bytes, by what its frame is
module _ (d : Desk) (m bytes out : List ℕ) {f : Frame} {b : Bool} {n : ℕ} {memory out' : List ℕ} (framed : f ≡ frame_of bytes)
    (told : b ≡ is_call f) where
  pub call_taken : {payload : List ℕ} {s : State} → payload ≡ payload_in bytes → b ≡ true →
      Leaves (line_call d.running d.plan d.state m payload f) out s n memory out' →
      Takes (bytes_turn d m bytes) out (with_state d s) n memory out'
  call_taken p h e = frame_taken d m bytes out framed p (rw (sym told ∙ h) (turn_left d m _ out f e))

  pub table_taken : {next : Desk} → b ≡ false → Takes (table_turn d m f) out next n memory out' →
      Takes (bytes_turn d m bytes) out next n memory out'
  table_taken h e = frame_taken d m bytes out {payload = payload_in bytes} framed refl (rw (sym told ∙ h) e)
