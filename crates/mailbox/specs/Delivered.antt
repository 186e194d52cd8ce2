-- What accepted calls do for each other: a start leaves every slot unwritten, and a message that was sent is the one that a receive of
-- its number finds, with its payload in view. Histories with other calls between are the crate history's.
use Rattle.std.specs.Prelude.{◌+◌, ◌*◌, ◌<◌, ◌≤◌, ◌^◌, ◌≡◌}
use Rattle.common.specs.Words.{ℕ, arith, div-mul-le_self, List, refl, ap, ◌∙◌, length, lt-ltb, le-ltb, lt-leb, le-leb, eq-eqb}
use Rattle.model.specs.Model.{receiver_period, last, wanted_until}
use Rattle.model.proofs.Number.{number_below}
use Rattle.model.proofs.Window.{last_iff}
use Rattle.calendar.specs.Calendar.{message, slot}
use Rattle.plan.specs.Limits.{last_tick, payload_bytes, slot_bytes}
use Rattle.plan.specs.Plan.{queue_at, slots_of}
use Rattle.plan.specs.Sound.{sound_iff, usable}
use Rattle.plan.specs.Verdicts.{verdict, by_clear, Passed, passed_clear}
use Rattle.judge.specs.Taken.{SendTaken, send_taken}
use Rattle.slots.specs.Slots.{slot_at, number_in, payload_in, stored}
use Rattle.slots.specs.SlotLaws.{number_same, payload_same, length_stored, number_cleared}
use Rattle.running.specs.Calls as running
use Rattle.running.specs.Bounds.{slot_inside_lem, count_small}
use Rattle.running.specs.Outcomes.{started_clear, start_is_clear, sent_clear, send_is_clear}
use Rattle.mailbox.specs.Types.{Number, Slot, Plan, State, Stored, Received, clear}
use Rattle.mailbox.specs.Calls.{start_answer, start_memory, send_lines, running_job, running_number, running_deadline, slot_in, slot_for, unsent_at}
use Rattle.mailbox.specs.Calls.{stored_as, send_answer, send_state, send_memory, receive_lines}
use Rattle.mailbox.specs.Calls.{receiving_job, next_number, found, look, accepted_receive}
use Rattle.running.specs.View.{view_of}
use Rattle.mailbox.specs.Outcomes.{state_clear}

-- "Start clears the slots of the plan": each reads as never written
pub start_unwritten : (p : Plan) (m : List ℕ) (k : ℕ) → start_answer p m ≡ clear → k < slots_of p →
    number_in payload_bytes (start_memory p m) k ≡ 0
start_unwritten p m k e h =
    rw (started_clear p m refl (start_is_clear p m e)).1 (number_cleared payload_bytes m (slots_of p) k h)

-- ## A send and then a receive of its number

module _ (s : State) (p : Plan) (m : List ℕ) (q i t : ℕ) (payload : List ℕ) (n : Number) (at : Slot)
    (told : send_answer s p m q i t payload ≡ stored_as n at) where
  abbrev state : State
  state = send_state s p m q i t payload

  abbrev memory : List ℕ
  memory = send_memory s p m q i t payload

  abbrev place : ℕ
  place = slot_for p q n.0

  is_clear : verdict (send_lines s p m q i t payload) ≡ clear
  is_clear = send_is_clear s.tick.0 (unsent_at s q i) p m q i t payload n at told

  taken : SendTaken s.tick.0 (unsent_at s q i) p m q i t payload
  taken = send_taken s.tick.0 (unsent_at s q i) p m q i t payload refl is_clear

  -- the number that was answered is the running job's
  pub answered : n ≡ message (running_number (queue_at p q) i t)
  answered =
      let e : send_answer s p m q i t payload ≡ _ = (sent_clear s.tick.0 (unsent_at s q i) p m q i t payload refl is_clear).0 in
      let same : ◌≡◌ {A = Stored} (record { number = n; slot = at })
      (record { number = message (running_number (queue_at p q) i t); slot = slot (slot_in p q (running_number (queue_at p q) i t)) }) = cc in
      ap (λ (x : Stored). x.number) same

  number_fits : n.0 < 2 ^ 64
  number_fits =
      let v = (usable taken.ground.sound q taken.queue).valid in
      rw answered
      (omega (
        arith,
        number_below (queue_at p q) v i (running_job (queue_at p q) i t) taken.sender,
        count_small taken.ground q taken.queue (running_deadline (queue_at p q) i t) taken.deadline_within,
      ))

  memory_is : memory ≡ stored payload_bytes m place n.0 payload
  memory_is = rw answered (sent_clear s.tick.0 (unsent_at s q i) p m q i t payload refl is_clear).1

  -- what the slot then holds
  pub sent_number : number_in payload_bytes (send_memory s p m q i t payload) (slot_for p q n.0) ≡ n.0
  sent_number =
      rw memory_is
      (number_same payload_bytes m payload place n.0 taken.whole (slot_inside_lem taken.ground q taken.queue n.0) number_fits)

  pub sent_payload : payload_in payload_bytes (send_memory s p m q i t payload) (slot_for p q n.0) ≡ payload
  sent_payload =
      rw memory_is (payload_same payload_bytes m payload place n.0 taken.whole (slot_inside_lem taken.ground q taken.queue n.0))

  same_length : length memory ≡ length m
  same_length = rw memory_is (length_stored payload_bytes m payload place n.0 taken.whole)

  -- the view of the message, where the filler is of full length
  pub sent_view : (filler : List ℕ) → length filler ≡ payload_bytes →
      view_of (Received.Message n (slot (slot_for p q n.0))) (send_memory s p m q i t payload) filler ≡ payload
  unfolding view_of
  sent_view filler h =
      let b : slot_at payload_bytes place + slot_bytes ≤ length memory = rw same_length (slot_inside_lem taken.ground q taken.queue n.0) in
      rw (eq-eqb (length filler) payload_bytes h, le-leb (slot_at payload_bytes place + slot_bytes) (length memory) b) sent_payload

  module _ (u : ℕ) (within : u ≤ last_tick) (wanted : u < wanted_until (queue_at p q) (receiving_job (queue_at p q) u))
      (next : next_number (send_state s p m q i t payload) p q u ≡ n.0)
      (window : n.0 ≤ last (queue_at p q) (receiving_job (queue_at p q) u)) where
    -- its deadline is not past the receiver's release, so the send was not after the receive
    in_order : state.tick.0 ≤ u
    in_order =
        let v = (usable taken.ground.sound q taken.queue).valid in
        let o = ap (λ (x : State). x.tick.0) (state_clear s p m q i t payload is_clear) in
        let d = (last_iff (queue_at p q) v (receiving_job (queue_at p q) u) i (running_job (queue_at p q) i t) taken.sender).0
        (rw answered at window) in
        omega (arith, o, d, taken.running, div-mul-le_self u (receiver_period (queue_at p q)))

    passed : Passed (receive_lines state p memory q u)
    passed = (
      rw ((sound_iff p).1 taken.ground.sound),
      (
        le-ltb (length memory) (slots_of p * slot_bytes) (rw same_length taken.ground.room),
        (
          rw (lt-ltb q p.queues taken.queue),
          (
            le-ltb last_tick u within,
            (
              le-ltb u state.tick.0 in_order,
              (lt-leb (wanted_until (queue_at p q) (receiving_job (queue_at p q) u)) u wanted, tt),
            ),
          ),
        ),
      ),
    )

    -- "a message answer holds the number and its slot counted from the start of memory"
    pub sent_received :
        look (send_state s p m q i t payload) p (send_memory s p m q i t payload) q u ≡ Received.Message n (slot (slot_for p q n.0))
    unfolding running.look found
    sent_received =
        by_clear (receive_lines state p memory q u) Received.Refused (accepted_receive state p memory q u)
        (passed_clear (receive_lines state p memory q u) passed)
        ∙ rw (next, le-ltb (last (queue_at p q) (receiving_job (queue_at p q) u)) n.0 window, eq-eqb _ _ sent_number)
