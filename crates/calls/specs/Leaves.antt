-- Frames 04 and 05 as the code takes them: what a call leaves of the state that it is lent is what the definition says.
use Rattle.std.specs.Prelude.{◌≤◌, ◌&&◌, ◌≡◌, Result}
use Rattle.common.specs.Words.{ℕ, arith, Bool, true, false, cond, List, [], refl, length, length-take, length-drop, sets}
use Rattle.plan.specs.Limits.{payload_bytes}
use Rattle.slots.specs.Slots as slots
use Rattle.running.specs.Calls as running
use Rattle.running.specs.View.{slot_inside, filler_fits, view_of}
use Rattle.mailbox.specs.Calls.{send_state, receive_state}
use Rattle.frames.specs.Answers.{bad_bytes, message_bytes}
use Rattle.frames.specs.Writing.{Written}
use Rattle.calls.specs.Types.{Tick, Number, Slot, Refusal, Plan, State, Stored, Received, Frame}
use Rattle.calls.specs.CallLines.{CallDone, unmoved, sent_bytes, send_call, filler, received_bytes, receive_call, call_of}

-- a function that takes a call leaves this state, as many bytes written, this memory and this buffer
abbrev pub Leaves : CallDone → List ℕ → State → ℕ → List ℕ → List ℕ → Type 0
Leaves c out state written memory out' =
    (state ≡ c.state) × (written ≡ length c.answer) × (memory ≡ c.memory) × (out' ≡ sets out 0 c.answer)

-- a line that changes nothing
pub bad_left : (s : State) (m out : List ℕ) {n : ℕ} {out' : List ℕ} → Written bad_bytes out n out' → Leaves (unmoved s m) out s n m out'
bad_left s m out w = (refl, w.0, refl, w.1)

-- ## 04

pub send_left : (s : State) (p : Plan) (m : List ℕ) (q i : ℕ) (t : Tick) (payload out : List ℕ) {r : Result Stored Refusal} {latest : Tick}
    {sent memory : List ℕ} {n : ℕ} {out' : List ℕ} → running.SendLeaves s.tick.0 s.sent p m q i t.0 payload r latest sent memory →
    Written (sent_bytes r) out n out' →
    Leaves (send_call p s m q i t payload) out (record { tick = latest; sent = sent; reading = s.reading }) n memory out'
unfolding send_state
send_left s p m q i t payload out e w = let l = rw e.0 at w in (rw (e.1, e.2), l.0, e.3, l.1)

-- ## 05

-- a view shows no more than a payload's bytes
pub view_short : (a : Received) (m : List ℕ) → length (view_of a m filler) ≤ payload_bytes
unfolding view_of
view_short (Received.Message n s) m = go (filler_fits filler && slot_inside m s.0)
  where
    go : (b : Bool) → length (cond b (slots.payload_in payload_bytes m s.0) []) ≤ payload_bytes
    go true = simp (length-take, length-drop) (omega arith)
    go false = omega arith
view_short (Received.Gap n i) m = omega arith
view_short Received.Empty m = omega arith
view_short (Received.Refused r) m = omega arith

pub message_line_lem : (a : Received) (n : Number) (s : Slot) (m payload out out' : List ℕ) (k : ℕ) → a ≡ Received.Message n s →
    payload ≡ view_of (Received.Message n s) m filler → Written (message_bytes n.0 payload) out k out' →
    Written (received_bytes m a) out k out'
message_line_lem a n s m payload out out' k e f w = rw e (rw f at w)

pub receive_left : (s : State) (p : Plan) (m : List ℕ) (q : ℕ) (t : Tick) (out : List ℕ) {r : Received} {latest : Tick} {reading : List ℕ}
    {n : ℕ} {out' : List ℕ} → running.ReceiveLeaves s.tick.0 s.reading p m q t.0 r latest reading →
    Written (received_bytes m r) out n out' →
    Leaves (receive_call p s m q t) out (record { tick = latest; sent = s.sent; reading = reading }) n m out'
unfolding receive_state
receive_left s p m q t out e w = let l = rw e.0 at w in (rw (e.1, e.2), l.0, refl, l.1)

-- ## Neither, where the code has told it from both

pub other_call : (p : Plan) (s : State) (m payload : List ℕ) (f : Frame) → ((q i : ℕ) (t : Tick) → f ≡ Frame.Send q i t → ⊥) →
    ((q : ℕ) (t : Tick) → f ≡ Frame.Receive q t → ⊥) → call_of p s m payload f ≡ unmoved s m
other_call p s m payload (Frame.Task period deadline priority) a b = refl
other_call p s m payload (Frame.Queue receiver mask) a b = refl
other_call p s m payload Frame.Go a b = refl
other_call p s m payload (Frame.Send q i t) a b = absurd (a q i t refl)
other_call p s m payload (Frame.Receive q t) a b = absurd (b q t refl)
other_call p s m payload Frame.Bad a b = refl
