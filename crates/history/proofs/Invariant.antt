-- What holds of each queue after every history: whatever was sent has in its slot itself or a higher number, and what a slot holds was sent.
-- It leans on the view of one call (Steps), on the laws of slots, and on fit sizes.
use Rattle.std.specs.Prelude.{◌+◌, ◌*◌, ◌%◌, ◌≤◌, ◌<◌, ◌⊎◌, ◌≡◌, Result, Ok, Err}
use Rattle.common.specs.Words.{ℕ, arith, le_refl, div-mul-le_self, ℕ_discrete, List, inl, inr, ⊎_elim, refl, sym, ap, subst, ◌∙◌, length}
use Rattle.common.specs.Words.{get_or, length-set, get_or-set_same, get_or-set_other}
use Rattle.common.specs.Tests.{lt_or_le, having}
use Rattle.model.specs.Model.{Queue, Valid, Sender, release_of, deadline_of, number}
use Rattle.model.specs.Source.{Fit, outdated_at}
use Rattle.model.proofs.Order.{deadline_positive}
use Rattle.model.proofs.Number.{number_inj}
use Rattle.model.proofs.Outdating.{outdated_iff, horizon_back}
use Rattle.plan.specs.Limits.{task_limit, queue_limit, cell_limit, payload_bytes, slot_bytes}
use Rattle.plan.specs.Plan.{queue_at, size_at, slots_of}
use Rattle.plan.specs.Sound.{Sound}
use Rattle.history.specs.Types.{Plan, Refusal, Stored}
use Rattle.slots.specs.Slots.{number_in, payload_in}
use Rattle.slots.specs.SlotLaws.{number_same, number_other, payload_same, payload_other, length_stored}
use Rattle.mailbox.specs.Calls.{slot_for, running_job}
use Rattle.history.specs.History.{Call, send, World, History, ◌⊑◌, same, more, world, Sends, accepted_as}
use Rattle.history.proofs.Steps.{CanSend, number_at, sent_world, next, send_stores, Step, sends, finds, ends, stays, step}
use Rattle.history.proofs.Ground.{valid_at, slots_differ, bytes_inside, number_fits, slot_waits}

-- the parts of state and memory keep their lengths
pub record Shape (p : Plan) (w : World) : Type 0 where
  pub cells : length w.state.sent ≡ cell_limit
  pub places : length w.state.reading ≡ queue_limit
  pub room : slots_of p * slot_bytes ≤ length w.memory

-- message n of queue q was sent by a job that is recorded and was released
pub record Origin (p : Plan) (q : ℕ) (w : World) (n : ℕ) : Type 0 where
  pub row : ℕ
  pub job : ℕ
  pub sender : Sender (queue_at p q) row
  pub numbered : number (queue_at p q) row job ≡ n
  pub recorded : job < get_or w.state.sent (q * task_limit + row) 0
  pub released : release_of (queue_at p q) row job ≤ w.state.tick.0

-- the number and the payload that lie in the slot of message n
abbrev pub held : Plan → ℕ → World → ℕ → ℕ
held p q w n = number_in payload_bytes w.memory (slot_for p q n)

abbrev pub bytes : Plan → ℕ → World → ℕ → List ℕ
bytes p q w n = payload_in payload_bytes w.memory (slot_for p q n)

-- Queue q in the world w, when S says which messages were sent on it, and with which payload.
pub record Inv (p : Plan) (q : ℕ) (S : ℕ → List ℕ → Type 0) (w : World) : Type 0 where
  pub origin : (n : ℕ) (b : List ℕ) → S n b → Origin p q w n
  pub once : (n : ℕ) (b c : List ℕ) → S n b → S n c → b ≡ c
  -- its slot holds it, or a message with a higher number
  pub not_older : (n : ℕ) (b : List ℕ) → S n b → n ≤ held p q w n
  -- and what a slot holds was sent, and lies in the slot of its number
  pub fair : (n : ℕ) → 1 ≤ held p q w n → S (held p q w n) (bytes p q w n) × (held p q w n % size_at p q ≡ n % size_at p q)

-- ## Time goes on

pub step_tick : {p : Plan} {w w' : World} {c : Call} → Step p w c w' → w.state.tick.0 ≤ w'.state.tick.0
step_tick (sends h) = h.in_order
step_tick (finds h l) = h.in_order
step_tick (ends h l) = h.in_order
step_tick (stays h) = le_refl _

pub tick_mono : (p : Plan) (m : List ℕ) {H K : History} → H ⊑ K → (world p m H).state.tick.0 ≤ (world p m K).state.tick.0
tick_mono p m same = le_refl _
tick_mono p m (more {K = K} {c = c} r) = omega (arith, tick_mono p m r, step_tick (step p (world p m K) c))

pub step_shape : {p : Plan} {w w' : World} {c : Call} → Shape p w → Step p w c w' → Shape p w'
step_shape {p} {w} shape (sends {q = q} {i = i} {t = t} {payload = b} h) = record {
  cells = length-set w.state.sent (q * task_limit + i) (running_job (queue_at p q) i t + 1) ∙ shape.cells;
  places = shape.places;
  room = omega (arith, shape.room, length_stored payload_bytes w.memory b (slot_for p q (number_at p w q i t)) (number_at p w q i t) h.whole);
}
step_shape {p} {w} shape (finds {q = q} {t = t} h l) = record {
  cells = shape.cells;
  places = length-set w.state.reading q (next p w q t + 1) ∙ shape.places;
  room = shape.room;
}
step_shape shape (ends h l) = record { cells = shape.cells; places = shape.places; room = shape.room }
step_shape shape (stays h) = shape

-- ## A call that sends nothing on this queue

module _ {p : Plan} {q : ℕ} {S : ℕ → List ℕ → Type 0} {w : World} where
  -- the sends of the queue's own tasks, its slots and its past are as they were
  pub untouched : {X : ℕ → List ℕ → Type 0} {w' : World} → ((n : ℕ) (b : List ℕ) → X n b → ⊥) → Inv p q S w →
      w.state.tick.0 ≤ w'.state.tick.0 →
      ((i : ℕ) → Sender (queue_at p q) i → get_or w'.state.sent (q * task_limit + i) 0 ≡ get_or w.state.sent (q * task_limit + i) 0) →
      ((n : ℕ) → held p q w' n ≡ held p q w n) → ((n : ℕ) → bytes p q w' n ≡ bytes p q w n) →
      Inv p q (λ n b. S n b ⊎ X n b) w'
  untouched {X} {w'} none inv later cell number payload = record {
    origin = λ n b s. origin' n (inv.origin n b (old n b s));
    once = λ n b c s r. inv.once n b c (old n b s) (old n c r);
    not_older = λ n b s. rw (number n) (inv.not_older n b (old n b s));
    fair = λ n. rw (number n, payload n) (λ h. (inl (inv.fair n h).0, (inv.fair n h).1));
  }
    where
      old : (n : ℕ) (b : List ℕ) → S n b ⊎ X n b → S n b
      old n b (inl s) = s
      old n b (inr x) = absurd (none n b x)

      origin' : (n : ℕ) → Origin p q w n → Origin p q w' n
      origin' n o = record {
        row = o.row;
        job = o.job;
        sender = o.sender;
        numbered = o.numbered;
        recorded = rw (cell o.row o.sender) o.recorded;
        released = omega (arith, o.released);
      }

-- ## A send

-- what an accepted send sends
pub sent_is : {p : Plan} {w : World} {r i t q n : ℕ} {b c : List ℕ} → CanSend p w r i t b → Sends p w (send r i t b) q n c →
    (r ≡ q) × (n ≡ number_at p w r i t) × (b ≡ c)
sent_is {p} {w} {r} {i} {t} {q} {n} {b} h (accepted_as e) = (refl, ap number_stored (sym e ∙ send_stores p w r i t b h), refl)
  where
    number_stored : Result Stored Refusal → ℕ
    number_stored (Ok it) = it.number.0
    number_stored (Err r) = 0

-- no message can be sent once it is outdated
pub outdated_late : (Q : Queue) → Valid Q → (i k : ℕ) → Sender Q i → deadline_of Q i k ≤ outdated_at Q (deadline_of Q i k)
outdated_late Q v i k s =
    let d : ℕ = deadline_of Q i k in
    omega (arith, (outdated_iff Q v d (outdated_at Q d) (deadline_positive Q v i k s)).0 (le_refl _), horizon_back Q v (outdated_at Q d))

module _ {p : Plan} (sound : Sound p) {w : World} (shape : Shape p w) where
  module _ (r i t : ℕ) (b : List ℕ) (can : CanSend p w r i t b) where
    abbrev pub now : World
    now = sent_world p w r i t b

    cell_inside : r * task_limit + i < length w.state.sent
    cell_inside = omega (arith, shape.cells, can.queue, can.sender.row, sound.checked.queues_fit, sound.checked.tasks_fit)

    -- ## on another queue

    other_cell : (q j : ℕ) → (r ≡ q → ⊥) → Sender (queue_at p q) j →
        get_or now.state.sent (q * task_limit + j) 0 ≡ get_or w.state.sent (q * task_limit + j) 0
    other_cell q j d s =
        get_or-set_other w.state.sent (r * task_limit + i) (q * task_limit + j) _ 0
        (λ e. d (omega (arith, can.sender.row, s.row, sound.checked.tasks_fit)))

    pub other_inv : {S : ℕ → List ℕ → Type 0} (q : ℕ) → q < p.queues → (r ≡ q → ⊥) → Inv p q S w →
        Inv p q (λ n c. S n c ⊎ Sends p w (send r i t b) q n c) now
    other_inv q h d inv =
        untouched (λ n c x. d (sent_is can x).0) inv can.in_order (λ j s. other_cell q j d s)
        (λ n. number_other payload_bytes w.memory b _ _ can.whole (slot_for p q n) (λ e. elsewhere n e))
        (λ n. payload_other payload_bytes w.memory b _ _ can.whole (slot_for p q n) (λ e. elsewhere n e))
      where
        elsewhere : (n : ℕ) → slot_for p q n ≡ slot_for p r (number_at p w r i t) → ⊥
        elsewhere n e = slots_differ sound q r n (number_at p w r i t) h can.queue (λ x. d (sym x)) e

    -- ## on the queue itself

    abbrev pub N : ℕ
    N = number_at p w r i t

    begun : release_of (queue_at p r) i (running_job (queue_at p r) i t) ≤ t
    begun = div-mul-le_self t ((queue_at p r).period i)

    slot_same : (n : ℕ) → n % size_at p r ≡ N % size_at p r → slot_for p r n ≡ slot_for p r N
    slot_same n e = rw e

    slot_other : (n : ℕ) → (n % size_at p r ≡ N % size_at p r → ⊥) → slot_for p r n ≡ slot_for p r N → ⊥
    slot_other n d e = d (omega arith)

    -- what the slots hold now
    pub number_now : (n : ℕ) → n % size_at p r ≡ N % size_at p r → held p r now n ≡ N
    number_now n e =
        rw (slot_same n e)
        (number_same payload_bytes w.memory b (slot_for p r N) N can.whole
        (bytes_inside sound (length w.memory) r N can.queue can.ground.room)
        (number_fits sound r i (running_job (queue_at p r) i t) can.queue can.sender can.deadline_within))

    payload_now : (n : ℕ) → n % size_at p r ≡ N % size_at p r → bytes p r now n ≡ b
    payload_now n e =
        rw (slot_same n e)
        (payload_same payload_bytes w.memory b (slot_for p r N) N can.whole
        (bytes_inside sound (length w.memory) r N can.queue can.ground.room))

    number_still : (n : ℕ) → (n % size_at p r ≡ N % size_at p r → ⊥) → held p r now n ≡ held p r w n
    number_still n d = number_other payload_bytes w.memory b (slot_for p r N) N can.whole (slot_for p r n) (slot_other n d)

    payload_still : (n : ℕ) → (n % size_at p r ≡ N % size_at p r → ⊥) → bytes p r now n ≡ bytes p r w n
    payload_still n d = payload_other payload_bytes w.memory b (slot_for p r N) N can.whole (slot_for p r n) (slot_other n d)

    own_cell : get_or now.state.sent (r * task_limit + i) 0 ≡ running_job (queue_at p r) i t + 1
    own_cell = get_or-set_same w.state.sent (r * task_limit + i) (running_job (queue_at p r) i t + 1) 0 cell_inside

    -- an older message's job stays recorded
    origin_still : (n : ℕ) → Origin p r w n → Origin p r now n
    origin_still n o = record {
      row = o.row;
      job = o.job;
      sender = o.sender;
      numbered = o.numbered;
      recorded = recorded' (ℕ_discrete o.row i);
      released = omega (arith, o.released, can.in_order);
    }
      where
        recorded' : Dec (o.row ≡ i) → o.job < get_or now.state.sent (r * task_limit + o.row) 0
        recorded' (yes e) = rw (e, own_cell) (omega (arith, rw e at o.recorded, can.unsent))
        recorded' (no d) = rw (get_or-set_other w.state.sent (r * task_limit + i) (r * task_limit + o.row) (running_job (queue_at p r) i t + 1) 0
            (λ e. d (omega arith))) o.recorded

    origin_now : Origin p r now N
    origin_now = record {
      row = i;
      job = running_job (queue_at p r) i t;
      sender = can.sender;
      numbered = refl;
      recorded = rw own_cell (omega arith);
      released = begun;
    }

    -- no earlier send was accepted as message N: its job would be recorded
    pub unsent : {S : ℕ → List ℕ → Type 0} → Inv p r S w → (c : List ℕ) → S N c → ⊥
    unsent inv c s =
        having (inv.origin N c s)
        (λ o.
        having (number_inj (queue_at p r) (valid_at sound r can.queue) o.row o.job i (running_job (queue_at p r) i t) o.sender
        can.sender o.numbered)
        (λ e. omega (arith, rw e.0 at o.recorded, e.1, can.unsent)))

    module _ (fit : Fit (queue_at p r) (size_at p r)) where
      -- an older message of the same slot has a lower number: N, which is sent now, is not outdated
      rises : {S : ℕ → List ℕ → Type 0} → Inv p r S w → (n : ℕ) (c : List ℕ) → S n c → n % size_at p r ≡ N % size_at p r →
          n ≤ N
      rises inv n c s e =
          ⊎_elim
          (λ (l : N < n).
          having (inv.origin n c s)
          (λ o.
          absurd
          (omega (
            arith,
            slot_waits sound r can.queue fit i (running_job (queue_at p r) i t) o.row o.job can.sender o.sender
                (rw o.numbered l) (rw o.numbered (sym e)),
            outdated_late (queue_at p r) (valid_at sound r can.queue) i (running_job (queue_at p r) i t) can.sender,
            o.released,
            can.in_order,
            can.running,
          ))))
          (λ l. l)
          (lt_or_le N n)

      pub own_inv : {S : ℕ → List ℕ → Type 0} → Inv p r S w → Inv p r (λ n c. S n c ⊎ Sends p w (send r i t b) r n c) now
      own_inv {S} inv = record {
        origin = origin';
        once = once';
        not_older = λ n c s. not_older' n c s (ℕ_discrete (n % size_at p r) (N % size_at p r));
        fair = λ n. fair' n (ℕ_discrete (n % size_at p r) (N % size_at p r));
      }
        where
          S' : ℕ → List ℕ → Type 0
          S' n c = S n c ⊎ Sends p w (send r i t b) r n c

          origin' : (n : ℕ) (c : List ℕ) → S' n c → Origin p r now n
          origin' n c (inl s) = origin_still n (inv.origin n c s)
          origin' n c (inr x) = rw (sent_is can x).1 origin_now

          again : (n : ℕ) (c d : List ℕ) → S n c → Sends p w (send r i t b) r n d → ⊥
          again n c d s x = unsent inv c (subst (λ (y : ℕ). S y c) (sent_is can x).1 s)

          once' : (n : ℕ) (c d : List ℕ) → S' n c → S' n d → c ≡ d
          once' n c d (inl s) (inl u) = inv.once n c d s u
          once' n c d (inl s) (inr x) = absurd (again n c d s x)
          once' n c d (inr x) (inl u) = absurd (again n d c u x)
          once' n c d (inr x) (inr y) = sym (sent_is can x).2 ∙ (sent_is can y).2

          not_older' : (n : ℕ) (c : List ℕ) → S' n c → Dec (n % size_at p r ≡ N % size_at p r) → n ≤ held p r now n
          not_older' n c (inl s) (yes e) = rw (number_now n e) (rises inv n c s e)
          not_older' n c (inl s) (no d) = rw (number_still n d) (inv.not_older n c s)
          not_older' n c (inr x) (yes e) = rw (number_now n e) (omega (arith, (sent_is can x).1))
          not_older' n c (inr x) (no d) = absurd (d (ap (λ (y : ℕ). y % size_at p r) (sent_is can x).1))

          fair' : (n : ℕ) → Dec (n % size_at p r ≡ N % size_at p r) → 1 ≤ held p r now n →
              S' (held p r now n) (bytes p r now n) × (held p r now n % size_at p r ≡ n % size_at p r)
          fair' n (yes e) = rw (number_now n e, payload_now n e) (λ h. (inr (accepted_as (send_stores p w r i t b can)), sym e))
          fair' n (no d) = rw (number_still n d, payload_still n d) (λ h. (inl (inv.fair n h).0, (inv.fair n h).1))
