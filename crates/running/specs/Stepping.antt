-- What an accepted call allows. Where a send stored its message, its job can be recorded in a state: queue and task have an entry, and the
-- job can be counted on. Where a look names a number, that can be counted on too, and its queue is there to be stepped on.
use Rattle.std.specs.Prelude.{◌*◌, ◌/◌, ◌<◌, ◌≤◌, ◌≡◌, Result, Ok, Err}
use Rattle.common.specs.Words.{ℕ, div-le_self, arith, Bool, true, false, cond, List, refl, sym, get_or, ltb, eqb, ltb-false}
use Rattle.model.specs.Model.{last, sender_of}
use Rattle.calendar.specs.Calendar.{message, slot}
use Rattle.plan.specs.Limits.{task_limit, queue_limit, last_tick, payload_bytes}
use Rattle.plan.specs.Plan.{queue_at}
use Rattle.plan.specs.Sound.{usable}
use Rattle.plan.specs.Verdicts.{verdict, by_refusal, by_clear}
use Rattle.slots.specs.Slots.{number_in}
use Rattle.judge.specs.Taken.{SendTaken, send_taken, sender_fits, ReceiveTaken, receive_taken}
use Rattle.running.specs.Types.{Plan, Refusal, Verdict, Stored, Received}
use Rattle.running.specs.Calls.{send_answer, receive_lines, receiving_job, next_number, slot_for, found, accepted_receive, look}
use Rattle.running.specs.Bounds.{window_small}
use Rattle.running.specs.Outcomes.{send_is_clear}

-- ## Send

pub record Storing (period : List ℕ) (q i t : ℕ) : Type 0 where
  pub queue_fits : q < queue_limit
  pub task_fits : i < task_limit
  pub period_counts : 1 ≤ get_or period i 0
  pub job_fits : t / get_or period i 0 ≤ last_tick

pub storing : {before unsent : ℕ} {p : Plan} {m : List ℕ} {q i t : ℕ} {payload : List ℕ} → SendTaken before unsent p m q i t payload →
    Storing p.period q i t
storing {p = p} {q = q} {i = i} {t = t} x =
    let u = usable x.ground.sound q x.queue in
    let f = sender_fits u x.sender in
    record {
      queue_fits = u.queue_fits;
      task_fits = f.0;
      period_counts = f.1.0;
      job_fits = omega (arith, x.tick_within, div-le_self t (get_or p.period i 0));
    }

-- of an answer: a message that it stored can be recorded
abbrev pub CanRecord : List ℕ → ℕ → ℕ → ℕ → Result Stored Refusal → Type 0
CanRecord period q i t (Ok it) = Storing period q i t
CanRecord period q i t (Err r) = Unit {0}

pub send_records : (before unsent : ℕ) (p : Plan) (m : List ℕ) (q i t : ℕ) (payload : List ℕ) →
    CanRecord p.period q i t (send_answer before unsent p m q i t payload)
send_records before unsent p m q i t payload = go (send_answer before unsent p m q i t payload) refl
  where
    go : (a : Result Stored Refusal) → send_answer before unsent p m q i t payload ≡ a → CanRecord p.period q i t a
    go (Err r) e = tt
    go (Ok it) e =
        storing (send_taken before unsent p m q i t payload refl (send_is_clear before unsent p m q i t payload it.number it.slot e))

-- ## Receive

-- no number up to the last tick is larger
abbrev pub most_number : ℕ
most_number = task_limit * last_tick

abbrev pub CanStep : ℕ → Received → Type 0
CanStep q (Received.Message n at) = (q < queue_limit) × (n.0 ≤ most_number)
CanStep q (Received.Gap n row) = (q < queue_limit) × (n.0 ≤ most_number)
CanStep q Received.Empty = Unit {0}
CanStep q (Received.Refused r) = Unit {0}

found_steps : (p : Plan) (m : List ℕ) (q n : ℕ) → q < queue_limit → n ≤ most_number → CanStep q (found p m q n)
unfolding found
found_steps p m q n a b = go (eqb (number_in payload_bytes m (slot_for p q n)) n)
  where
    go : (t : Bool) → CanStep q (cond t (Received.Message (message n) (slot (slot_for p q n)))
        (Received.Gap (message n) (sender_of (queue_at p q) last_tick n)))
    go true = (a, b)
    go false = (a, b)

accepted_steps : (before unread : ℕ) (p : Plan) (m : List ℕ) (q t : ℕ) → ReceiveTaken before p m q t →
    CanStep q (accepted_receive unread p m q t)
accepted_steps before unread p m q t x = go (ltb (last (queue_at p q) (receiving_job (queue_at p q) t)) (next_number unread p q t)) refl
  where
    go : (b : Bool) → ltb (last (queue_at p q) (receiving_job (queue_at p q) t)) (next_number unread p q t) ≡ b →
        CanStep q (cond b Received.Empty (found p m q (next_number unread p q t)))
    go true e = tt
    go false e =
        let w = window_small x.ground q x.queue t x.tick_within in
        found_steps p m q (next_number unread p q t) (omega (arith, x.queue, x.ground.sound.checked.queues_fit))
        (omega (arith, w.0, w.1, ltb-false (last (queue_at p q) (receiving_job (queue_at p q) t)) (next_number unread p q t) e))

pub look_steps : (before unread : ℕ) (p : Plan) (m : List ℕ) (q t : ℕ) → CanStep q (look before unread p m q t)
unfolding look
look_steps before unread p m q t = go (verdict (receive_lines before p m q t)) refl
  where
    go : (v : Verdict) → verdict (receive_lines before p m q t) ≡ v → CanStep q (look before unread p m q t)
    go (Err r) e = rw (by_refusal (receive_lines before p m q t) Received.Refused (accepted_receive unread p m q t) r e) tt
    go (Ok x) e =
        rw (by_clear (receive_lines before p m q t) Received.Refused (accepted_receive unread p m q t) e)
        (accepted_steps before unread p m q t (receive_taken before p m q t (sym e) refl))
