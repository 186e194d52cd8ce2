-- Slots and numbers of an accepted call stay within their bounds.
use Rattle.std.specs.Prelude.{◌+◌, ◌*◌, ◌^◌, ◌<◌, ◌≤◌}
use Rattle.common.specs.Words.{ℕ, arith, mod-lt, div-mul-le_self, List, length}
use Rattle.model.specs.Model.{receiver_period, up_to, last}
use Rattle.model.proofs.Number.{up_to_mono}
use Rattle.plan.specs.Limits.{task_limit, last_tick, payload_bytes, slot_bytes}
use Rattle.plan.specs.Plan.{queue_at, size_at, place_at, slots_of}
use Rattle.plan.specs.Sound.{Sound, usable, inside}
use Rattle.plan.specs.declared.Plan.{Plan}
use Rattle.counting.specs.Lent.{lent}
use Rattle.counting.specs.Bounds.{up_to_fits}
use Rattle.slots.specs.Slots.{slot_at}
use Rattle.judge.specs.Taken.{Ground}
use Rattle.running.specs.Calls.{receiving_job, slot_for}

-- what `slot_for` asks
pub slots_small : {p : Plan} → Sound p → (q : ℕ) → q < p.queues → (1 ≤ size_at p q) × (place_at p q + size_at p q < 2 ^ 64)
slots_small s q h = (s.size_pos q h, omega (arith, inside s q h, s.total_fits))

module _ {p : Plan} {m : List ℕ} (g : Ground p m) (q : ℕ) (counted : q < p.queues) where
  -- every number's slot is one of the plan's
  pub slot_of_plan : (n : ℕ) → slot_for p q n < slots_of p
  slot_of_plan n = omega (arith, inside g.sound q counted, mod-lt n (g.sound.size_pos q counted))

  -- and lies inside the memory
  pub slot_inside_lem : (n : ℕ) → slot_at payload_bytes (slot_for p q n) + slot_bytes ≤ length m
  slot_inside_lem n = omega (arith, slot_of_plan n, g.room)

  pub count_small : (t : ℕ) → t ≤ last_tick → up_to (queue_at p q) t ≤ task_limit * last_tick
  count_small t h = up_to_fits (lent p q (usable g.sound q counted)) t h

  -- a window's numbers up to the last tick
  pub window_small : (t : ℕ) → t ≤ last_tick →
      (last (queue_at p q) (receiving_job (queue_at p q) t) ≤ up_to (queue_at p q) last_tick)
      × (up_to (queue_at p q) last_tick ≤ task_limit * last_tick)
  unfolding last
  window_small t h = (
    up_to_mono (queue_at p q) (usable g.sound q counted).valid _ last_tick (omega (arith, div-mul-le_self t (receiver_period (queue_at p q)))),
    count_small last_tick (omega arith),
  )
