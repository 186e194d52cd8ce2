-- A receive, by its answer: what each of the four kinds says of the state and the memory before it.
use Rattle.std.specs.Prelude.{◌+◌, ◌/◌, ◌≤◌, ◌<◌, ◌⊎◌, ◌≡◌}
use Rattle.common.specs.Words.{ℕ, zero, suc, arith, div-mul-le_self, Bool, true, false, List, inl, inr, refl, sym, ap, subst, ◌∙◌, eqb}
use Rattle.common.specs.Words.{length, eqb-true, eqb-false, eq-eqb, le-leb}
use Rattle.common.specs.Tests.{lt_or_le}
use Rattle.calendar.specs.Calendar.{message, slot}
use Rattle.model.specs.Model.{Valid, Sender, receiver_period, deadline_of, number, first, last, sender_of}
use Rattle.model.specs.Source.{job_for, outdated_at}
use Rattle.model.proofs.Window.{last_iff, window_own, window_zero}
use Rattle.plan.specs.Limits.{last_tick, payload_bytes, slot_bytes}
use Rattle.plan.specs.Plan.{queue_at}
use Rattle.plan.specs.Sound.{Sound}
use Rattle.plan.specs.Refusals.{Line}
use Rattle.history.specs.Types.{Number, Plan, Refusal, Received}
use Rattle.slots.specs.Slots.{slot_at}
use Rattle.mailbox.specs.Calls.{receive_lines, found, slot_for, receiving_job}
use Rattle.running.specs.View.{view_of}
use Rattle.plan.specs.Verdicts.{Passed, Stopped, passed_or_stopped}
use Rattle.history.specs.History.{Call, World, receive_says, Sends, accepted_as, Tells, of_message, of_gap}
use Rattle.judge.specs.Taken.{receive_passed}
use Rattle.history.proofs.Steps.{CanReceive, next, last_at, receive_finds, receive_ends, receive_refused, Step, sends, stays}
use Rattle.history.proofs.Ground.{valid_at, bytes_inside}
use Rattle.history.proofs.Invariant.{held, bytes, sent_is}

pub data Answered (p : Plan) (w : World) (q t : ℕ) : Received → Type 0 where
  finding : CanReceive p w q t → next p w q t ≤ last_at p w q t → held p q w (next p w q t) ≡ next p w q t →
      Answered p w q t (Received.Message (message (next p w q t)) (slot (slot_for p q (next p w q t))))
  missing : CanReceive p w q t → next p w q t ≤ last_at p w q t → (held p q w (next p w q t) ≡ next p w q t → ⊥) →
      Answered p w q t (Received.Gap (message (next p w q t)) (sender_of (queue_at p q) last_tick (next p w q t)))
  ended : CanReceive p w q t → last_at p w q t < next p w q t → Answered p w q t Received.Empty
  refused : {r : Refusal} → Answered p w q t (Received.Refused r)

pub answered : (p : Plan) (w : World) (q t : ℕ) → Answered p w q t (receive_says p w q t)
unfolding found
answered p w q t = go (passed_or_stopped lines) (lt_or_le (last_at p w q t) (next p w q t)) (eqb (held p q w (next p w q t)) (next p w q t)) refl
  where
    lines : List Line
    lines = receive_lines w.state p w.memory q t

    saying : {a : Received} → receive_says p w q t ≡ a → Answered p w q t a → Answered p w q t (receive_says p w q t)
    saying e s = subst (λ (x : Received). Answered p w q t x) (sym e) s

    go : Passed lines ⊎ ((r : Refusal) × Stopped lines r) → (last_at p w q t < next p w q t) ⊎ (next p w q t ≤ last_at p w q t) →
        (b : Bool) → eqb (held p q w (next p w q t)) (next p w q t) ≡ b → Answered p w q t (receive_says p w q t)
    go (inr h) l b e = saying (receive_refused p w q t h.0 h.1) refused
    go (inl h) (inl l) b e = let can = receive_passed w.state.tick.0 p w.memory q t h in saying (receive_ends p w q t can l) (ended can l)
    go (inl h) (inr l) true e =
        let can = receive_passed w.state.tick.0 p w.memory q t h in
        saying (receive_finds p w q t can l ∙ rw e) (finding can l (eqb-true _ _ e))
    go (inl h) (inr l) false e =
        let can = receive_passed w.state.tick.0 p w.memory q t h in
        saying (receive_finds p w q t can l ∙ rw e) (missing can l (eqb-false _ _ e))

-- by an equation, as theorems speak of answers
pub answered_so : (p : Plan) (w : World) (q t : ℕ) (a : Received) → receive_says p w q t ≡ a → Answered p w q t a
answered_so p w q t a e = subst (λ (x : Received). Answered p w q t x) e (answered p w q t)

-- ## An answer that tells number n

pub record Told (p : Plan) (w : World) (q t n : ℕ) : Type 0 where
  pub can : CanReceive p w q t
  pub is_next : n ≡ next p w q t
  pub not_past : n ≤ last_at p w q t

pub told : {p : Plan} {w : World} {q t n : ℕ} {a : Received} → Answered p w q t a → Tells a n → Told p w q t n
told {p} {w} {q} {t} {n} {a} answer tells = go answer refl tells
  where
    -- the number that is told is the next one
    as_next : {k : ℕ} → message (next p w q t) ≡ message k → k ≡ next p w q t
    as_next e = sym (ap (λ (x : Number). x.0) e)

    go : {x y : Received} {k : ℕ} → Answered p w q t x → x ≡ y → Tells y k → Told p w q t k
    go (finding h l e) s (of_message {n = k}) =
        let same : k ≡ next p w q t = as_next {k = k} (cc) in
        record { can = h; is_next = same; not_past = omega arith }
    go (missing h l e) s (of_gap {n = k}) =
        let same : k ≡ next p w q t = as_next {k = k} (cc) in
        record { can = h; is_next = same; not_past = omega arith }
    go (finding h l e) s of_gap = cc
    go (missing h l e) s of_message = cc
    go (ended h l) s of_message = cc
    go (ended h l) s of_gap = cc
    go refused s of_message = cc
    go refused s of_gap = cc

module _ {p : Plan} (sound : Sound p) {w : World} {q t n : ℕ} (k : Told p w q t n) where
  valid_queue : Valid (queue_at p q)
  valid_queue = valid_at sound q k.can.queue

  pub told_window : (first (queue_at p q) (receiving_job (queue_at p q) t) ≤ n) × (n ≤ last (queue_at p q) (receiving_job (queue_at p q) t))
  told_window = (omega (arith, k.is_next), k.not_past)

  -- it is no job 0, whose window is empty
  told_job : 1 ≤ receiving_job (queue_at p q) t
  told_job = go (receiving_job (queue_at p q) t) told_window.0 told_window.1
    where
      go : (m : ℕ) → first (queue_at p q) m ≤ n → n ≤ last (queue_at p q) m → 1 ≤ m
      go zero a b = absurd (omega (arith, (window_zero (queue_at p q) valid_queue).0, (window_zero (queue_at p q) valid_queue).1))
      go (suc m) a b = omega arith

  -- whoever's message it is has its deadline behind it, and it is not yet outdated
  pub told_deadline : (i j : ℕ) → Sender (queue_at p q) i → number (queue_at p q) i j ≡ n → deadline_of (queue_at p q) i j ≤ t
  told_deadline i j s e =
      omega (
        arith,
        (last_iff (queue_at p q) valid_queue (receiving_job (queue_at p q) t) i j s).0 (rw e k.not_past),
        div-mul-le_self t (receiver_period (queue_at p q)),
      )

  pub told_outdated : (i j : ℕ) → Sender (queue_at p q) i → number (queue_at p q) i j ≡ n →
      t < outdated_at (queue_at p q) (deadline_of (queue_at p q) i j)
  unfolding outdated_at
  told_outdated i j s e =
      let job : job_for (queue_at p q) (deadline_of (queue_at p q) i j) ≡ receiving_job (queue_at p q) t =
      (window_own (queue_at p q) valid_queue (receiving_job (queue_at p q) t) i j s told_job).0 (rw e told_window) in
      rw job k.can.wanted

-- what the view shows of a message
pub shown : {p : Plan} → Sound p → (w : World) {q t : ℕ} (n : ℕ) (filler : List ℕ) → CanReceive p w q t →
    length filler ≡ payload_bytes →
    view_of (Received.Message (message n) (slot (slot_for p q n))) w.memory filler ≡ bytes p q w n
unfolding view_of
shown {p} sound w {q} {t} n filler can width =
    rw (
      eq-eqb (length filler) payload_bytes width,
      le-leb (slot_at payload_bytes (slot_for p q n) + slot_bytes) (length w.memory)
          (bytes_inside sound (length w.memory) q n can.queue can.ground.room),
    )

-- ## A send that is accepted comes before its message's deadline

pub record Ahead (p : Plan) (w : World) (q n : ℕ) : Type 0 where
  pub row : ℕ
  pub job : ℕ
  pub queue : q < p.queues
  pub sender : Sender (queue_at p q) row
  pub numbered : number (queue_at p q) row job ≡ n
  pub ahead : w.state.tick.0 < deadline_of (queue_at p q) row job

pub in_time : {p : Plan} {w w' : World} {c : Call} {q n : ℕ} {b : List ℕ} → Sends p w c q n b → Step p w c w' → Ahead p w q n
in_time {p} {w} {q = q} {n = n} {b = b} x y = go x y
  where
    go : {c : Call} {w' : World} → Sends p w c q n b → Step p w c w' → Ahead p w q n
    go (accepted_as {i = i} {t = t} e) (sends h) =
        record {
          row = i;
          job = t / (queue_at p q).period i;
          queue = h.queue;
          sender = h.sender;
          numbered = sym (sent_is {w = w} h (accepted_as e)).1;
          ahead = omega (arith, h.in_order, h.running);
        }
    go (accepted_as e) (stays quiet) = absurd (quiet.no_send q n b (accepted_as e))
