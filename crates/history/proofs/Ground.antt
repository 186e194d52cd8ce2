-- What the proofs need of a plan: that its queues are valid and their slots lie side by side, that each size is fit, and what follows
-- for slots, cells of the state and numbers. It leans on the model's laws; a plan that planning makes is such a plan (`made_fits`).
use Rattle.std.specs.Prelude.{◌+◌, ◌-◌, ◌*◌, ◌/◌, ◌%◌, ◌≤◌, ◌<◌, ◌^◌, ◌≡◌}
use Rattle.common.specs.Words.{ℕ, suc, arith, mod-lt, mul-le-mul_right, div-add-mod', div-lt_iff_lt-mul, lt-div-mul-add, ⊎_elim}
use Rattle.common.specs.Tests.{lt_or_le}
use Rattle.model.specs.Model.{Queue, Valid, Sender, release_of, deadline_of, number}
use Rattle.model.specs.Source.{Fit, outdated_at}
use Rattle.model.proofs.Number.{up_to_le, number_below}
use Rattle.model.proofs.Fit.{fit_above}
use Rattle.plan.specs.Limits.{last_tick, payload_bytes, slot_bytes}
use Rattle.plan.specs.Plan.{queue_at, size_at, slots_of}
use Rattle.plan.specs.Sound.{Sound, usable, inside, apart as places-apart}
use Rattle.plan.specs.declared.Plan.{Plan}
use Rattle.slots.specs.Slots.{slot_at}
use Rattle.slots.specs.SlotLaws.{slots_apart}
use Rattle.mailbox.specs.Calls.{slot_for}

-- ## Divisions

-- two numbers with the same slot are a whole size apart
pub apart : (r n c : ℕ) → n % r ≡ c % r → n < c → n + r ≤ c
apart r n c e h =
    ⊎_elim (λ (l : n / r < c / r). omega (arith, div-add-mod' n r, div-add-mod' c r, mul-le-mul_right r l))
    (λ (k : c / r ≤ n / r). absurd (omega (arith, div-add-mod' n r, div-add-mod' c r, mul-le-mul_right r k)))
    (lt_or_le (n / r) (c / r))

pub div_mono : (r a b : ℕ) → 1 ≤ r → a ≤ b → a / r ≤ b / r
div_mono r a b h l =
    let k : a / r < suc (b / r) = (div-lt_iff_lt-mul h).1 (omega (arith, lt-div-mul-add {a = b} h)) in
    omega arith

-- ## Slots of a plan

module _ {p : Plan} (sound : Sound p) where
  pub valid_at : (q : ℕ) → q < p.queues → Valid (queue_at p q)
  valid_at q h = (usable sound q h).valid

  -- queue q's slots lie inside the total, and before those of every later queue
  pub slot_inside_lem : (q n : ℕ) → q < p.queues → slot_for p q n < slots_of p
  slot_inside_lem q n h = omega (arith, inside sound q h, mod-lt n (sound.size_pos q h))

  slots_before : (q r n c : ℕ) → q < r → r < p.queues → slot_for p q n < slot_for p r c
  slots_before q r n c l h =
      omega (arith, places-apart sound q (omega arith) r l h, mod-lt n (sound.size_pos q (omega arith)))

  pub slots_differ : (q r n c : ℕ) → q < p.queues → r < p.queues → (q ≡ r → ⊥) → slot_for p q n ≡ slot_for p r c → ⊥
  slots_differ q r n c hq hr d e =
      ⊎_elim (λ (l : q < r). omega (arith, slots_before q r n c l hr))
      (λ (l : r ≤ q). omega (arith, slots_before r q c n (omega arith) hq))
      (lt_or_le q r)

  -- its bytes lie inside the memory
  pub bytes_inside : (m : ℕ) (q n : ℕ) → q < p.queues → slots_of p * slot_bytes ≤ m →
      slot_at payload_bytes (slot_for p q n) + slot_bytes ≤ m
  bytes_inside m q n h room = omega (arith, slots_apart payload_bytes (slot_for p q n) (slots_of p) (slot_inside_lem q n h))

  -- a number fits its 8 bytes
  pub number_fits : (q i k : ℕ) → q < p.queues → Sender (queue_at p q) i → deadline_of (queue_at p q) i k ≤ last_tick →
      number (queue_at p q) i k < 2 ^ 64
  number_fits q i k h s d =
      omega (
        arith,
        number_below (queue_at p q) (valid_at q h) i k s,
        up_to_le (queue_at p q) (valid_at q h) (deadline_of (queue_at p q) i k),
        mul-le-mul_right (deadline_of (queue_at p q) i k) sound.checked.tasks_fit,
      )

  -- of two messages of one slot, the first is outdated when the second's job is released
  pub slot_waits : (q : ℕ) → q < p.queues → Fit (queue_at p q) (size_at p q) → (i k j l : ℕ) → Sender (queue_at p q) i →
      Sender (queue_at p q) j →
      number (queue_at p q) i k < number (queue_at p q) j l →
      number (queue_at p q) i k % size_at p q ≡ number (queue_at p q) j l % size_at p q →
      outdated_at (queue_at p q) (deadline_of (queue_at p q) i k) ≤ release_of (queue_at p q) j l
  slot_waits q h fit i k j l si sj less e =
      let Q : Queue = queue_at p q in
      fit_above Q (valid_at q h) (size_at p q) (number Q j l - number Q i k)
      (omega (arith, apart (size_at p q) (number Q i k) (number Q j l) e less)) fit
      i k j l si sj (omega arith)

-- A sound plan whose sizes are fit.
pub record Fitting (p : Plan) : Type 0 where
  pub sound : Sound p
  pub fit : (q : ℕ) → q < p.queues → Fit (queue_at p q) (size_at p q)
