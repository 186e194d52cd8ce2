-- After every history the invariant holds of every queue: from the start, which clears the slots, over each call.
use Rattle.std.specs.Prelude.{◌*◌, ◌≤◌, ◌<◌, ◌⊎◌, ◌≡◌}
use Rattle.common.specs.Words.{ℕ, arith, le_refl, ℕ_discrete, true, List, refl, sym, subst, ◌∙◌}
use Rattle.common.specs.Words.{length, drop, length-replicate, ltb-false, not-false}
use Rattle.plan.specs.Limits.{queue_limit, cell_limit, payload_bytes, slot_bytes}
use Rattle.plan.specs.Plan.{slots_of}
use Rattle.plan.specs.Rules.{sound_plan}
use Rattle.plan.specs.Sound.{Sound}
use Rattle.history.specs.Types.{Plan}
use Rattle.slots.specs.Slots.{cleared}
use Rattle.slots.specs.SlotLaws.{length_cleared, number_cleared, behind_stored, behind_cleared}
use Rattle.mailbox.specs.Calls.{start_lines, start_answer, start_memory, slot_for}
use Rattle.plan.specs.Verdicts.{Passed, passed_good, clear_passed}
use Rattle.history.specs.History.{Call, send, World, History, start, ◌then◌, Begins, begun, world, Sends, SentIn}
use Rattle.history.proofs.Steps.{CanSend, Step, sends, finds, ends, stays, step, sent_world, number_at}
use Rattle.history.proofs.Ground.{Fitting, slot_inside_lem}
use Rattle.history.proofs.Invariant.{Shape, Inv, held, step_shape, untouched, other_inv, own_inv}

-- ## The start

module _ {p : Plan} {m : List ℕ} (begins : Begins p m) where
  ready_passes : Passed (start_lines p m)
  unfolding start_answer
  ready_passes = clear_passed (start_lines p m) begins.ready

  pub ready_sound : sound_plan p ≡ true
  ready_sound = not-false (sound_plan p) ready_passes.0

  pub ready_room : slots_of p * slot_bytes ≤ length m
  ready_room = ltb-false _ _ ready_passes.1.0

  pub ready_memory : start_memory p m ≡ cleared payload_bytes m (slots_of p)
  unfolding start_memory
  ready_memory = passed_good (start_lines p m) (λ r. m) _ ready_passes

  start_shape : Shape p (begun p m)
  start_shape = record {
    cells = length-replicate {A = ℕ} cell_limit 0;
    places = length-replicate {A = ℕ} queue_limit 0;
    room = rw ready_memory (omega (arith, ready_room, length_cleared payload_bytes m (slots_of p) ready_room));
  }

  start_inv : Sound p → (q : ℕ) → q < p.queues → Inv p q (λ n b. ⊥) (begun p m)
  start_inv sound q h = record {
    origin = λ n b s. absurd s;
    once = λ n b c s r. absurd s;
    not_older = λ n b s. absurd s;
    fair = λ n pos. absurd (omega (arith, empty n));
  }
    where
      empty : (n : ℕ) → held p q (begun p m) n ≡ 0
      empty n = rw ready_memory (number_cleared payload_bytes m (slots_of p) (slot_for p q n) (slot_inside_lem sound q n h))

-- ## Each call

step_inv : {p : Plan} → Fitting p → {q : ℕ} {S : ℕ → List ℕ → Type 0} {w w' : World} {c : Call} → q < p.queues → Shape p w →
    Inv p q S w → Step p w c w' →
    Inv p q (λ n b. S n b ⊎ Sends p w c q n b) w'
step_inv {p} fitting {q} {S} {w} h shape inv (sends {q = r} {i = i} {t = t} {payload = b} can) = go (ℕ_discrete r q)
  where
    Goal : ℕ → Type 0
    Goal x = CanSend p w x i t b → Inv p q (λ n c. S n c ⊎ Sends p w (send x i t b) q n c) (sent_world p w x i t b)

    go : Dec (r ≡ q) → Inv p q (λ n c. S n c ⊎ Sends p w (send r i t b) q n c) (sent_world p w r i t b)
    go (yes e) = subst Goal (sym e) (λ can'. own_inv fitting.sound shape q i t b can' (fitting.fit q h) inv) can
    go (no d) = other_inv fitting.sound shape r i t b can q h d inv
step_inv fitting h shape inv (finds can l) = untouched (λ n b s. elim s [ ]) inv can.in_order (λ i s. refl) (λ n. refl) (λ n. refl)
step_inv fitting h shape inv (ends can l) = untouched (λ n b s. elim s [ ]) inv can.in_order (λ i s. refl) (λ n. refl) (λ n. refl)
step_inv fitting {q} h shape inv (stays quiet) = untouched (λ n b s. quiet.no_send q n b s) inv (le_refl _) (λ i s. refl) (λ n. refl) (λ n. refl)

module _ {p : Plan} {m : List ℕ} (begins : Begins p m) where
  pub shaped : (H : History) → Shape p (world p m H)
  shaped start = start_shape begins
  shaped (H then c) = step_shape (shaped H) (step p (world p m H) c)

  pub holds : Fitting p → (q : ℕ) → q < p.queues → (H : History) → Inv p q (SentIn p m H q) (world p m H)
  holds fitting q h start = start_inv begins fitting.sound q h
  holds fitting q h (H then c) = step_inv fitting h (shaped H) (holds fitting q h H) (step p (world p m H) c)

-- ## Bytes behind the last slot

step_behind : {p : Plan} → Sound p → {w w' : World} {c : Call} → Step p w c w' →
    drop (slots_of p * slot_bytes) w'.memory ≡ drop (slots_of p * slot_bytes) w.memory
step_behind {p} sound {w} (sends {q = q} {i = i} {t = t} {payload = b} can) =
    let n : ℕ = number_at p w q i t in
    behind_stored payload_bytes w.memory b (slot_for p q n) n can.whole (slots_of p) (slot_inside_lem sound q n can.queue)
step_behind sound (finds can l) = refl
step_behind sound (ends can l) = refl
step_behind sound (stays quiet) = refl

pub behind_stays : {p : Plan} {m : List ℕ} → Sound p → Begins p m → (H : History) →
    drop (slots_of p * slot_bytes) (world p m H).memory ≡ drop (slots_of p * slot_bytes) m
behind_stays {p} {m} sound begins start = rw (ready_memory begins) (behind_cleared payload_bytes m (slots_of p))
behind_stays {p} {m} sound begins (H then c) = step_behind sound (step p (world p m H) c) ∙ behind_stays sound begins H
