-- One call, by what it comes to. Every later proof goes by this list of cases and never looks at the tests again.
-- It leans on Verdicts: a call is accepted exactly when its lines pass.
use Rattle.std.specs.Prelude.{◌≤◌, ◌<◌, ◌&&◌, ◌⊎◌, ◌≡◌, Result, Ok, Err}
use Rattle.common.specs.Words.{ℕ, Bool, true, false, cond, true≢false, List, [], inl, inr, ⊎_elim, refl, sym, ap, subst, ◌∙◌, eqb, lt-ltb}
use Rattle.common.specs.Words.{le-ltb}
use Rattle.common.specs.Tests.{lt_or_le}
use Rattle.model.specs.Model.{last, sender_of}
use Rattle.calendar.specs.Calendar.{message, slot}
use Rattle.history.specs.Types.{State, Plan, Refusal, Stored, Received}
use Rattle.plan.specs.Refusals.{Line}
use Rattle.plan.specs.Limits.{last_tick, payload_bytes}
use Rattle.plan.specs.Plan.{queue_at}
use Rattle.slots.specs.Slots.{number_in, stored}
use Rattle.running.specs.Calls as running
use Rattle.mailbox.specs.Calls.{unsent_at, send_lines, receive_lines, found, receive_state, stepped_on, running_number, receiving_job, next_number}
use Rattle.mailbox.specs.Calls.{slot_in, slot_for, stored_as}
use Rattle.mailbox.specs.Outcomes.{sent_state, read_past, moved_to, state_clear}
use Rattle.mailbox.specs.Refused.{send_keeps}
use Rattle.plan.specs.Verdicts.{Passed, Stopped, passed_good, passed_clear, stopped_refused, passed_or_stopped}
use Rattle.judge.specs.Taken.{SendTaken, send_passed, send_passes, ReceiveTaken, receive_passed, receive_passes}
use Rattle.history.specs.History.{Call, send, receive, ask_number, ask_way_back, ask_window, ask_view, World, send_says, receive_says, after, Sends}
use Rattle.history.specs.History.{accepted_as, reads, readings, Tells, of_message, of_gap, AcceptedCall, stores, tells, empty}

-- ## When a call is accepted

abbrev pub CanSend : Plan → World → ℕ → ℕ → ℕ → List ℕ → Type 0
CanSend p w q i t payload = SendTaken w.state.tick.0 (unsent_at w.state q i) p w.memory q i t payload

abbrev pub CanReceive : Plan → World → ℕ → ℕ → Type 0
CanReceive p w q t = ReceiveTaken w.state.tick.0 p w.memory q t

module _ (p : Plan) (w : World) where
  -- ## What an accepted call leaves

  abbrev pub number_at : ℕ → ℕ → ℕ → ℕ
  number_at q i t = running_number (queue_at p q) i t

  abbrev pub sent_world : ℕ → ℕ → ℕ → List ℕ → World
  sent_world q i t payload = record {
    state = sent_state w.state p q i t;
    memory = stored payload_bytes w.memory (slot_for p q (number_at q i t)) (number_at q i t) payload;
  }

  -- the number that a receive on queue q at tick t comes to
  abbrev pub next : ℕ → ℕ → ℕ
  next q t = next_number w.state p q t

  -- the last number of the window of the receiver's job that runs at tick t
  abbrev pub last_at : ℕ → ℕ → ℕ
  last_at q t = last (queue_at p q) (receiving_job (queue_at p q) t)

  abbrev pub read_world : ℕ → ℕ → World
  read_world q t = record { state = read_past w.state q t (next q t); memory = w.memory }

  abbrev pub moved_world : ℕ → World
  moved_world t = record { state = moved_to w.state t; memory = w.memory }

  -- ## The answers

  pub send_stores : (q i t : ℕ) (payload : List ℕ) → CanSend p w q i t payload →
      send_says p w q i t payload ≡ stored_as (message (number_at q i t)) (slot (slot_in p q (number_at q i t)))
  unfolding running.send_answer
  send_stores q i t payload h = passed_good (send_lines w.state p w.memory q i t payload) Err _ (send_passes h)

  pub receive_finds : (q t : ℕ) → CanReceive p w q t → next q t ≤ last_at q t → receive_says p w q t ≡ found p w.memory q (next q t)
  unfolding running.look
  receive_finds q t h l =
      passed_good (receive_lines w.state p w.memory q t) Received.Refused _ (receive_passes h) ∙ rw (le-ltb (last_at q t) (next q t) l)

  pub receive_ends : (q t : ℕ) → CanReceive p w q t → last_at q t < next q t → receive_says p w q t ≡ Received.Empty
  unfolding running.look
  receive_ends q t h l =
      passed_good (receive_lines w.state p w.memory q t) Received.Refused _ (receive_passes h) ∙ rw (lt-ltb (last_at q t) (next q t) l)

  pub receive_refused : (q t : ℕ) (r : Refusal) → Stopped (receive_lines w.state p w.memory q t) r →
      receive_says p w q t ≡ Received.Refused r
  unfolding running.look
  receive_refused q t r h = stopped_refused (receive_lines w.state p w.memory q t) r Received.Refused _ h

-- ## One call

-- a call that sends nothing, tells nothing and changes nothing: a refused one, a lookup, a view
pub record Quiet (p : Plan) (w : World) (c : Call) : Type 0 where
  pub no_send : (q n : ℕ) (payload : List ℕ) → Sends p w c q n payload → ⊥
  pub no_reading : (filler : List ℕ) (q k : ℕ) → reads p filler w c q k ≡ []

pub data Step (p : Plan) (w : World) : Call → World → Type 0 where
  sends : {q i t : ℕ} {payload : List ℕ} → CanSend p w q i t payload → Step p w (send q i t payload) (sent_world p w q i t payload)
  finds : {q t : ℕ} → CanReceive p w q t → next p w q t ≤ last_at p w q t → Step p w (receive q t) (read_world p w q t)
  ends : {q t : ℕ} → CanReceive p w q t → last_at p w q t < next p w q t → Step p w (receive q t) (moved_world p w t)
  stays : {c : Call} → Quiet p w c → Step p w c w

-- ## Every call is one of these

stored_or_refused : (s : Stored) (r : Refusal) → Ok s ≡ Err r → ⊥
stored_or_refused s r e = true≢false (ap is_stored e)
  where
    is_stored : Result Stored Refusal → Bool
    is_stored (Ok s) = true
    is_stored (Err r) = false

neither_arm : {A : Type 0} (b : Bool) (x : A) → cond b x x ≡ x
neither_arm true x = refl
neither_arm false x = refl

module _ (p : Plan) (w : World) where
  -- what a call leaves, given the state and the memory that it leaves
  leaves : {s : State} {m : List ℕ} {s' : State} {m' : List ℕ} → s ≡ s' → m ≡ m' →
      ◌≡◌ {A = World} (record { state = s; memory = m }) (record { state = s'; memory = m' })
  leaves {s} {m} {s'} {m'} e d = ap (λ (x : State). record { state = x; memory = m }) e
      ∙ ap (λ (y : List ℕ). record { state = s'; memory = y }) d

  pub after_send : (q i t : ℕ) (payload : List ℕ) → CanSend p w q i t payload →
      after p w (send q i t payload) ≡ sent_world p w q i t payload
  unfolding after running.send_memory
  after_send q i t payload h =
      let lines : List Line = send_lines w.state p w.memory q i t payload in
      let passed : Passed lines = send_passes h in
      leaves (state_clear w.state p w.memory q i t payload (passed_clear lines passed)) (passed_good lines (λ r. w.memory) _ passed)

  send_step : (q i t : ℕ) (payload : List ℕ) → Step p w (send q i t payload) (after p w (send q i t payload))
  unfolding after running.send_answer
  send_step q i t payload = go (passed_or_stopped (send_lines w.state p w.memory q i t payload))
    where
      lines : List Line
      lines = send_lines w.state p w.memory q i t payload

      go : Passed lines ⊎ ((r : Refusal) × Stopped lines r) → Step p w (send q i t payload) (after p w (send q i t payload))
      go (inl h) =
          let can : CanSend p w q i t payload = send_passed w.state.tick.0 (unsent_at w.state q i) p w.memory q i t payload h in
          subst (λ (x : World). Step p w (send q i t payload) x) (sym (after_send q i t payload can)) (sends can)
      go (inr h) =
          let e : send_says p w q i t payload ≡ Err h.0 = stopped_refused lines h.0 Err _ h.1 in
          let k = send_keeps w.state p w.memory q i t payload h.0 e in
          subst (λ (x : World). Step p w (send q i t payload) x) (sym (leaves k.0 k.1))
          (stays (record { no_send = silent h.0 e; no_reading = λ filler q k. refl }))
        where
          silent : (r : Refusal) → send_says p w q i t payload ≡ Err r → (q' n : ℕ) (payload' : List ℕ) →
              Sends p w (send q i t payload) q' n payload' → ⊥
          silent r e q' n payload' (accepted_as d) = stored_or_refused _ r (sym d ∙ e)

  -- a receive that comes to number n, whether its slot holds n or not
  found_read : (s : State) (q t n : ℕ) → stepped_on s q t (found p w.memory q n) ≡ read_past s q t n
  unfolding found
  found_read s q t n = go (eqb (number_in payload_bytes w.memory (slot_for p q n)) n)
    where
      go : (b : Bool) → stepped_on s q t
          (cond b (Received.Message (message n) (slot (slot_for p q n))) (Received.Gap (message n) (sender_of (queue_at p q) last_tick n)))
          ≡ read_past s q t n
      go true = refl
      go false = refl

  -- either way it tells n
  pub found_tells : (q n : ℕ) → Tells (found p w.memory q n) n
  unfolding found
  found_tells q n = go (eqb (number_in payload_bytes w.memory (slot_for p q n)) n)
    where
      go : (b : Bool) → Tells (cond b (Received.Message (message n) (slot (slot_for p q n)))
          (Received.Gap (message n) (sender_of (queue_at p q) last_tick n))) n
      go true = of_message
      go false = of_gap

  -- a receive leaves what its answer says
  by_answer : (q t : ℕ) (a : Received) → receive_says p w q t ≡ a →
      after p w (receive q t) ≡ record { state = stepped_on w.state q t a; memory = w.memory }
  unfolding after receive_state
  by_answer q t a e = leaves (ap (stepped_on w.state q t) e) refl

  pub after_finds : (q t : ℕ) → CanReceive p w q t → next p w q t ≤ last_at p w q t → after p w (receive q t) ≡ read_world p w q t
  after_finds q t h l = by_answer q t _ (receive_finds p w q t h l) ∙ leaves (found_read w.state q t (next p w q t)) refl

  pub after_ends : (q t : ℕ) → CanReceive p w q t → last_at p w q t < next p w q t → after p w (receive q t) ≡ moved_world p w t
  after_ends q t h l = by_answer q t _ (receive_ends p w q t h l)

  -- an accepted receive sets the tick
  pub receive_moves : (q t : ℕ) → CanReceive p w q t → (after p w (receive q t)).state.tick.0 ≡ t
  receive_moves q t h =
      ⊎_elim (λ (l : last_at p w q t < next p w q t). ap (λ (x : World). x.state.tick.0) (after_ends q t h l))
      (λ (l : next p w q t ≤ last_at p w q t). ap (λ (x : World). x.state.tick.0) (after_finds q t h l))
      (lt_or_le (last_at p w q t) (next p w q t))

  receive_step : (q t : ℕ) → Step p w (receive q t) (after p w (receive q t))
  receive_step q t = go (passed_or_stopped (receive_lines w.state p w.memory q t)) (lt_or_le (last_at p w q t) (next p w q t))
    where
      lines : List Line
      lines = receive_lines w.state p w.memory q t

      leaving : {x : World} → after p w (receive q t) ≡ x → Step p w (receive q t) x → Step p w (receive q t) (after p w (receive q t))
      leaving e s = subst (λ (x : World). Step p w (receive q t) x) (sym e) s

      quiet : (r : Refusal) → receive_says p w q t ≡ Received.Refused r → (filler : List ℕ) (q' k : ℕ) →
          reads p filler w (receive q t) q' k ≡ []
      quiet r e filler q' k =
          ap (λ (a : Received). cond (eqb q q' && eqb (receiving_job (queue_at p q') t) k) (readings a w.memory filler) []) e
          ∙ neither_arm (eqb q q' && eqb (receiving_job (queue_at p q') t) k) []

      go : Passed lines ⊎ ((r : Refusal) × Stopped lines r) → (last_at p w q t < next p w q t) ⊎ (next p w q t ≤ last_at p w q t) →
          Step p w (receive q t) (after p w (receive q t))
      go (inl h) (inl l) = let can : CanReceive p w q t = receive_passed w.state.tick.0 p w.memory q t h in
          leaving (after_ends q t can l) (ends can l)
      go (inl h) (inr l) = let can : CanReceive p w q t = receive_passed w.state.tick.0 p w.memory q t h in
          leaving (after_finds q t can l) (finds can l)
      go (inr h) l =
          let e : receive_says p w q t ≡ Received.Refused h.0 = receive_refused p w q t h.0 h.1 in
          leaving (by_answer q t (Received.Refused h.0) e) (stays (record { no_send = λ r n payload s. elim s [ ]; no_reading = quiet h.0 e }))

  looks : (c : Call) → after p w c ≡ w → ((q n : ℕ) (payload : List ℕ) → Sends p w c q n payload → ⊥) →
      ((filler : List ℕ) (q k : ℕ) → reads p filler w c q k ≡ []) → Step p w c (after p w c)
  looks c e a b = subst (λ (x : World). Step p w c x) (sym e) (stays (record { no_send = a; no_reading = b }))

  pub step : (c : Call) → Step p w c (after p w c)
  unfolding after
  step (send q i t payload) = send_step q i t payload
  step (receive q t) = receive_step q t
  step (ask_number q i k) = looks (ask_number q i k) refl (λ r n payload s. elim s [ ]) (λ filler r j. refl)
  step (ask_way_back q n) = looks (ask_way_back q n) refl (λ r n payload s. elim s [ ]) (λ filler r j. refl)
  step (ask_window q k) = looks (ask_window q k) refl (λ r n payload s. elim s [ ]) (λ filler r j. refl)
  step (ask_view a f) = looks (ask_view a f) refl (λ r n payload s. elim s [ ]) (λ filler r j. refl)

  -- a call that is no accepted send or receive changes nothing
  pub others_change_nothing : (c : Call) → ¬ AcceptedCall p w c → after p w c ≡ w
  others_change_nothing c none = go (step c) none
    where
      go : {c : Call} {w' : World} → Step p w c w' → ¬ AcceptedCall p w c → w' ≡ w
      go (sends {q = q} {i = i} {t = t} {payload = payload} h) none = absurd (none (stores (send_stores p w q i t payload h)))
      go (finds {q = q} {t = t} h l) none =
          absurd (none (tells (subst (λ (a : Received). Tells a (next p w q t)) (sym (receive_finds p w q t h l)) (found_tells q (next p w q t)))))
      go (ends {q = q} {t = t} h l) none = absurd (none (empty (receive_ends p w q t h l)))
      go (stays quiet) none = refl
