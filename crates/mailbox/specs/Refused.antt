-- Refusals of the running calls: each is given exactly where its line is the first that applies, and gives back state and memory.
use Rattle.std.specs.Prelude.{◌↔◌, ◌≡◌, Ok, Err}
use Rattle.common.specs.Words.{Bool, true, false, cond, List, ◌∙◌, ℕ, arith, ltb, eqb}
use Rattle.plan.specs.Limits.{last_tick, payload_bytes}
use Rattle.plan.specs.Plan.{queue_at}
use Rattle.plan.specs.Refusals.{Line, judged}
use Rattle.mailbox.specs.Types.{Plan, Refusal, Verdict, clear, State, Received}
use Rattle.model.specs.Model.{last, sender_of}
use Rattle.calendar.specs.Calendar.{message, slot}
use Rattle.running.specs.Calls as running
use Rattle.mailbox.specs.Calls.{start_lines, start_answer, start_memory, send_lines, send_answer, send_state, send_memory, receive_lines, slot_for}
use Rattle.mailbox.specs.Calls.{receiving_job, next_number, look, accepted_receive, found, receive_state}
use Rattle.slots.specs.Slots.{number_in}
use Rattle.plan.specs.Verdicts.{verdict, outcome, by_verdict, Stopped, verdict_stopped, stopped_verdict}

-- of any answer whose refusals can be told apart from each other and from the good answer
refusal_iff : {A : Type 0} (lines : List Line) (refused : Refusal → A) (good : A) (r : Refusal) →
    ((x : Refusal) → refused x ≡ refused r → x ≡ r) → (good ≡ refused r → ⊥) →
    (judged lines refused good ≡ refused r) ↔ Stopped lines r
refusal_iff {A} lines refused good r tells apart = (
  λ e. verdict_stopped lines r (go (verdict lines) (rw (by_verdict lines refused good) at e)),
  λ f. by_verdict lines refused good ∙ rw (stopped_verdict lines r f),
)
  where
    go : (v : Verdict) → outcome v refused good ≡ refused r → v ≡ Err r
    go (Ok it) e = absurd (apart e)
    go (Err x) e = rw (tells x e)

pub start_refused : (p : Plan) (m : List ℕ) (r : Refusal) → (start_answer p m ≡ Err r) ↔ Stopped (start_lines p m) r
unfolding start_answer
start_refused p m r =
    refusal_iff {A = Verdict} (start_lines p m) Err clear r (λ x e. cc) (λ e. let z : ◌≡◌ {A = ℕ} 0 1 = cc in omega arith)

pub send_refused : (s : State) (p : Plan) (m : List ℕ) (q i t : ℕ) (payload : List ℕ) (r : Refusal) →
    (send_answer s p m q i t payload ≡ Err r) ↔ Stopped (send_lines s p m q i t payload) r
unfolding running.send_answer
send_refused s p m q i t payload r =
    refusal_iff (send_lines s p m q i t payload) Err _ r (λ x e. cc) (λ e. let z : ◌≡◌ {A = ℕ} 0 1 = cc in omega arith)

found_no_refusal : (p : Plan) (m : List ℕ) (q n : ℕ) (r : Refusal) → found p m q n ≡ Received.Refused r → ⊥
unfolding found
found_no_refusal p m q n r = go (eqb (number_in payload_bytes m (slot_for p q n)) n)
  where
    go : (b : Bool) → cond b (Received.Message (message n) (slot (slot_for p q n)))
        (Received.Gap (message n) (sender_of (queue_at p q) last_tick n))
        ≡ Received.Refused r → ⊥
    go true e = let z : ◌≡◌ {A = ℕ} 0 1 = cc in omega arith
    go false e = let z : ◌≡◌ {A = ℕ} 0 1 = cc in omega arith

read_no_refusal : (b : Bool) (a : Received) (r : Refusal) → (a ≡ Received.Refused r → ⊥) →
    cond b Received.Empty a ≡ Received.Refused r → ⊥
read_no_refusal true a r apart e = let z : ◌≡◌ {A = ℕ} 0 1 = cc in omega arith
read_no_refusal false a r apart e = apart e

pub receive_refused : (s : State) (p : Plan) (m : List ℕ) (q t : ℕ) (r : Refusal) →
    (look s p m q t ≡ Received.Refused r) ↔ Stopped (receive_lines s p m q t) r
unfolding running.look
receive_refused s p m q t r =
    refusal_iff (receive_lines s p m q t) Received.Refused (accepted_receive s p m q t) r (λ x e. cc)
    (read_no_refusal (ltb (last (queue_at p q) (receiving_job (queue_at p q) t)) (next_number s p q t)) _ r
    (found_no_refusal p m q (next_number s p q t) r))

-- ## What a refusal leaves as it was

unchanged : {A : Type 0} (lines : List Line) (was new : A) (r : Refusal) → Stopped lines r → judged lines (λ r. was) new ≡ was
unchanged lines was new r f = by_verdict lines (λ r. was) new ∙ rw (stopped_verdict lines r f)

pub start_keeps : (p : Plan) (m : List ℕ) (r : Refusal) → start_answer p m ≡ Err r → start_memory p m ≡ m
unfolding start_memory
start_keeps p m r e = unchanged (start_lines p m) m _ r ((start_refused p m r).0 e)

pub send_keeps : (s : State) (p : Plan) (m : List ℕ) (q i t : ℕ) (payload : List ℕ) (r : Refusal) →
    send_answer s p m q i t payload ≡ Err r → (send_state s p m q i t payload ≡ s) × (send_memory s p m q i t payload ≡ m)
unfolding send_state running.send_memory
send_keeps s p m q i t payload r e = (
  rw e,
  unchanged (send_lines s p m q i t payload) m _ r ((send_refused s p m q i t payload r).0 e),
)

pub receive_keeps : (s : State) (p : Plan) (m : List ℕ) (q t : ℕ) (r : Refusal) → look s p m q t ≡ Received.Refused r →
    receive_state s p m q t ≡ s
unfolding receive_state
receive_keeps s p m q t r e = rw e
