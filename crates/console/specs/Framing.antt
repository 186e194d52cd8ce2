-- A line's bytes as the code takes them: a line that is no frame has none, and no bytes are no frame either.
use Rattle.std.specs.Prelude.{◌≤◌, ◌≡◌, ◌<◌, Option, None, Some, unwrap_or}
use Rattle.common.specs.Words.{ℕ, arith, Bool, true, false, cond, List, [], refl, sym, ◌∙◌, length, take, le-ltb, lt-ltb}
use Rattle.digits.specs.Hex.{most_bytes, is_line, bytes_in, decoded_of, decoded_into}
use Rattle.digits.specs.HexLaws.{decoded_holds, decoded_none}
use Rattle.console.specs.Types.{Frame, Desk}
use Rattle.frames.specs.Answers.{longest_answer}
use Rattle.frames.specs.Frames.{frame_of, payload_in}
use Rattle.desk.specs.Desk.{Turn, bad, with_state, call_turn, frame_turn, bytes_turn, line_turn, Takes}
use Rattle.console.specs.Step.{step_of, StepGives}
use Rattle.calls.specs.CallLines.{line_call}
use Rattle.desk.specs.Turns.{frame_taken}
unfoldable pub use Rattle.desk.specs.Desk.{framed_bytes}

-- a frame that means nothing is answered alike whether a plan runs or not
nothing_turn : (d : Desk) (m payload : List ℕ) → call_turn d m payload Frame.Bad ≡ bad d m
unfolding call_turn with_state
nothing_turn d m payload = go d.running
  where
    go : (b : Bool) → let c = line_call b d.plan d.state m payload Frame.Bad in
        ◌≡◌ {A = Turn} (record { desk = with_state d c.state; memory = c.memory; answer = c.answer }) (bad d m)
    go true = refl
    go false = refl

-- no bytes are answered as a line that is no frame
no_bytes : (d : Desk) (m : List ℕ) → bytes_turn d m [] ≡ bad d m
unfolding bytes_turn frame_of
no_bytes d m = nothing_turn d m (payload_in [])

pub line_framed : (d : Desk) (m line : List ℕ) → line_turn d m line ≡ bytes_turn d m (framed_bytes line)
unfolding line_turn framed_bytes
line_framed d m line = go (is_line line)
  where
    go : (b : Bool) → cond b (bytes_turn d m (bytes_in line)) (bad d m) ≡ bytes_turn d m (cond b (bytes_in line) [])
    go true = refl
    go false = sym (no_bytes d m)

-- ## A step

pub step_short : (d : Desk) (m line out : List ℕ) → length out < longest_answer →
    StepGives d m line out (record { desk = d; reply = None }) m out
unfolding step_of
step_short d m line out h = rw (lt-ltb (length out) longest_answer h) (refl, refl, refl)

-- with room for an answer it takes the turn of the line's bytes
pub step_taken : (d : Desk) (m line out : List ℕ) → longest_answer ≤ length out →
    {bytes payload : List ℕ} {f : Frame} {next : Desk} {n : ℕ} {memory out' : List ℕ} →
    bytes ≡ framed_bytes line → f ≡ frame_of bytes → payload ≡ payload_in bytes →
    Takes (frame_turn d m payload f) out next n memory out' →
    StepGives d m line out (record { desk = next; reply = Some n }) memory out'
unfolding step_of
step_taken d m line out room b f p x =
    let y = rw (b, ← line_framed d m line) at (frame_taken d m _ out f p x) in
    rw (le-ltb (length out) longest_answer room, y.0, y.1) (refl, y.2, y.3)

-- ## What decoding finds

module _ (line buffer : List ℕ) (x : Option ℕ) (bytes : List ℕ) (is : (x ≡ decoded_of line) × (bytes ≡ decoded_into line buffer)) where
  abbrev Found : ℕ → Type 0
  Found n = (n ≤ most_bytes) × (take n bytes ≡ framed_bytes line) × (bytes ≡ decoded_into line buffer)

  -- the frame's bytes, where there was room for the longest
  pub framed_some : most_bytes ≤ length buffer → (n : ℕ) → x ≡ Some n → Found n
  unfolding framed_bytes
  framed_some room n e =
      let h = decoded_holds line buffer n room (sym is.0 ∙ e) in
      (h.within, rw (is.1, h.is_line_lem) h.bytes_are, is.1)

  -- no bytes where the line is no frame, whatever room there was
  pub framed_none : x ≡ None → Found 0
  unfolding framed_bytes
  framed_none e = (omega arith, rw (decoded_none line (sym is.0 ∙ e)), is.1)

  -- and of any line
  pub framed : most_bytes ≤ length buffer → Found (unwrap_or x 0)
  framed room = go x refl
    where
      go : (y : Option ℕ) → x ≡ y → Found (unwrap_or y 0)
      go (Some n) e = framed_some room n e
      go None e = framed_none e
