-- What the running calls answer in document 01's numbers, refusal by refusal.
use Rattle.std.specs.Prelude.{◌*◌, ◌||◌, ◌∷◌, ◌≡◌, Err}
use Rattle.common.specs.Words.{ℕ, cond, not, List, [], leb, ltb, eqb, length}
use Rattle.model.specs.Model.{wanted_until}
use Rattle.plan.specs.Limits.{last_tick, payload_bytes, slot_bytes}
use Rattle.plan.specs.Plan.{queue_at, slots_of}
use Rattle.plan.specs.Says.{no}
use Rattle.plan.specs.Rules.{sound_plan, connected}
use Rattle.mailbox.specs.Types.{Plan, clear, State, Received}
use Rattle.timing.specs.Timing.{sent_already}
use Rattle.running.specs.Calls as running
use Rattle.mailbox.specs.Calls.{start_lines, start_answer, send_lines, running_job, running_deadline, running_number, slot_in, unsent_at, send_answer}
use Rattle.mailbox.specs.Calls.{receive_lines, receiving_job, look, accepted_receive, started_says, sent_says, received_says}
use Rattle.plan.specs.Verdicts.{judged_map}

-- "Running calls test 7, 8, 14, 9, 11, 10, 12, 13, as far as each applies"
pub start_says : (p : Plan) (m : List ℕ) →
    started_says (start_answer p m)
    ≡ cond (not (sound_plan p)) (no 7)
    (cond (ltb (length m) (slots_of p * slot_bytes)) (no 8)
    (0x81, []))
unfolding start_answer
start_says p m = judged_map started_says (start_lines p m) Err clear

pub send_says_lem : (s : State) (p : Plan) (m : List ℕ) (q i t : ℕ) (payload : List ℕ) →
    let n = running_number (queue_at p q) i t in
    sent_says (send_answer s p m q i t payload)
    ≡ cond (not (sound_plan p)) (no 7)
    (cond (ltb (length m) (slots_of p * slot_bytes)) (no 8)
    (cond (not (eqb (length payload) payload_bytes)) (no 14)
    (cond (not (connected p q i)) (no 9)
    (cond (ltb last_tick t || ltb last_tick (running_deadline (queue_at p q) i t)) (no 11)
    (cond (ltb t s.tick.0) (no 10)
    (cond (leb (running_deadline (queue_at p q) i t) t) (no 12)
    (cond (sent_already (unsent_at s q i) (running_job (queue_at p q) i t)) (no 13)
    (0x84, n ∷ slot_in p q n ∷ []))))))))
unfolding running.send_answer
send_says_lem s p m q i t payload = judged_map sent_says (send_lines s p m q i t payload) Err _

pub receive_says_lem : (s : State) (p : Plan) (m : List ℕ) (q t : ℕ) →
    received_says (look s p m q t)
    ≡ cond (not (sound_plan p)) (no 7)
    (cond (ltb (length m) (slots_of p * slot_bytes)) (no 8)
    (cond (not (ltb q p.queues)) (no 9)
    (cond (ltb last_tick t) (no 11)
    (cond (ltb t s.tick.0) (no 10)
    (cond (leb (wanted_until (queue_at p q) (receiving_job (queue_at p q) t)) t) (no 12)
    (received_says (accepted_receive s p m q t)))))))
unfolding running.look
receive_says_lem s p m q t = judged_map received_says (receive_lines s p m q t) Received.Refused (accepted_receive s p m q t)
