-- By verdict: what a call answers and leaves once its tests have been made, and that an answer which is no refusal is given only where
-- all of them were passed.
use Rattle.std.specs.Prelude.{◌≡◌, Ok, Err}
use Rattle.common.specs.Words.{ℕ, arith, List, refl, sym, ◌∙◌}
use Rattle.calendar.specs.Calendar.{message, slot}
use Rattle.plan.specs.Limits.{payload_bytes}
use Rattle.plan.specs.Plan.{queue_at, slots_of}
use Rattle.plan.specs.Refusals.{Line, judged}
use Rattle.plan.specs.Verdicts.{verdict, outcome, by_verdict, by_refusal, by_clear}
use Rattle.slots.specs.Slots.{stored, cleared}
use Rattle.running.specs.Types.{Number, Slot, Plan, Refusal, Verdict, clear}
use Rattle.running.specs.Calls.{start_lines, start_answer, start_memory, send_lines, running_number, slot_in, slot_for, send_answer, send_memory}
use Rattle.running.specs.Calls.{stored_as}

-- an answer that no refusal gives is given where all lines are passed
no_refusal : {A : Type 0} (lines : List Line) (refused : Refusal → A) (good a : A) → ((r : Refusal) → refused r ≡ a → ⊥) →
    judged lines refused good ≡ a → verdict lines ≡ clear
no_refusal {A} lines refused good a apart e = go (verdict lines) (sym (by_verdict lines refused good) ∙ e)
  where
    go : (v : Verdict) → outcome v refused good ≡ a → v ≡ clear
    go (Ok x) e = refl
    go (Err r) e = absurd (apart r e)

module _ (p : Plan) (m : List ℕ) where
  pub started_refused : (r : Refusal) {v : Verdict} → v ≡ verdict (start_lines p m) → v ≡ Err r →
      (start_answer p m ≡ Err r) × (start_memory p m ≡ m)
  unfolding start_answer start_memory
  started_refused r f g =
      let e = sym f ∙ g in
      (e, by_refusal (start_lines p m) (λ r. m) _ r e)

  pub started_clear : {v : Verdict} → v ≡ verdict (start_lines p m) → v ≡ clear →
      (start_answer p m ≡ clear) × (start_memory p m ≡ cleared payload_bytes m (slots_of p))
  unfolding start_answer start_memory
  started_clear f g =
      let e = sym f ∙ g in
      (e, by_clear (start_lines p m) (λ r. m) _ e)

  pub start_is_clear : start_answer p m ≡ clear → verdict (start_lines p m) ≡ clear
  unfolding start_answer
  start_is_clear e = e

module _ (before unsent : ℕ) (p : Plan) (m : List ℕ) (q i t : ℕ) (payload : List ℕ) where
  abbrev lines : List Line
  lines = send_lines before unsent p m q i t payload

  pub sent_refused : (r : Refusal) {v : Verdict} → v ≡ verdict lines → v ≡ Err r →
      (send_answer before unsent p m q i t payload ≡ Err r) × (send_memory before unsent p m q i t payload ≡ m)
  unfolding send_answer send_memory
  sent_refused r f g = let e = sym f ∙ g in (by_refusal lines Err _ r e, by_refusal lines (λ r. m) _ r e)

  pub sent_clear : {v : Verdict} → v ≡ verdict lines → v ≡ clear →
      let n = running_number (queue_at p q) i t in
      (send_answer before unsent p m q i t payload ≡ stored_as (message n) (slot (slot_in p q n)))
      × (send_memory before unsent p m q i t payload ≡ stored payload_bytes m (slot_for p q n) n payload)
  unfolding send_answer send_memory
  sent_clear f g = let e = sym f ∙ g in (by_clear lines Err _ e, by_clear lines (λ r. m) _ e)

  pub send_is_clear : (n : Number) (at : Slot) → send_answer before unsent p m q i t payload ≡ stored_as n at →
      verdict lines ≡ clear
  unfolding send_answer
  send_is_clear n at e =
      no_refusal lines Err _ (stored_as n at) (λ r f. let z : ◌≡◌ {A = ℕ} 0 1 = cc in omega arith) e
