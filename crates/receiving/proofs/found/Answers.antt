-- `receiving::found`: by the number that the slot holds.
use Rattle.std.specs.Prelude.{◌≡◌}
use Rattle.common.specs.Words.{true, false, List, ℕ, eqb}
use Rattle.common.specs.Tests.{as_tested}
use Rattle.model.specs.Model.{sender_of}
use Rattle.calendar.specs.Calendar.{message, slot}
use Rattle.plan.specs.Limits.{last_tick, payload_bytes}
use Rattle.plan.specs.Plan.{queue_at}
use Rattle.slots.specs.Slots.{number_in}
use Rattle.running.specs.Types.{Number, Slot, Plan}
use Rattle.running.specs.declared.Received.{Received}
use Rattle.running.specs.Calls.{slot_for, found}
use Rattle.running.specs.Bounds.{slots_small, slot_inside_lem}
use Rattle.receiving.proofs.found.Goals as goal

-- what the slot of number n says
module _ (p : Plan) (m : List ℕ) (q : ℕ) (n : Number) {held : Number} {at : Slot} (a : at ≡ slot (slot_for p q n.0))
    (b : held ≡ message (number_in payload_bytes m at.0)) where
  holds : held.0 ≡ number_in payload_bytes m (slot_for p q n.0)
  holds = rw (b, a)

  is_message : eqb held.0 n.0 ≡ true → Received.Message n at ≡ found p m q n.0
  unfolding found
  is_message e = rw (← holds, e, a)

  is_gap : eqb held.0 n.0 ≡ false → {row : ℕ} → row ≡ sender_of (queue_at p q) last_tick n.0 → Received.Gap n row ≡ found p m q n.0
  unfolding found
  is_gap e d = rw (← holds, e, d)

pub slot_for-slot-requires : goal.slot_for-slot-requires
slot_for-slot-requires c = slots_small c.requires.0.sound _ c.requires.1

pub number_in-requires : goal.number_in-requires
number_in-requires c = rw c.slot_for-slot.ensures (slot_inside_lem c.requires.0 _ c.requires.1 _)

pub returns-then-eq : goal.returns-then-eq
returns-then-eq c =
    is_message c.args.plan.now c.args.memory.now c.args.queue _ c.slot_for-slot.ensures c.number_in.ensures
    (as_tested c.eq.ensures c.if-eq.true)

pub returns : goal.returns
returns c =
    is_gap c.args.plan.now c.args.memory.now c.args.queue _ c.slot_for-slot.ensures c.number_in.ensures
    (as_tested c.eq.ensures c.if-eq.false) c.sender_in-sender.ensures
