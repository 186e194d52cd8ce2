-- What the theorems ask of a plan is that planning made it (`Made` of planning). Here is what the proofs take from that.
use Rattle.std.specs.Prelude.{◌*◌, ◌≤◌, ◌<◌, ◌≡◌}
use Rattle.common.specs.Words.{ℕ, arith, true, List, sym, subst, length, replicate, length-replicate, le-ltb}
use Rattle.model.proofs.Slots.{slots_fit}
use Rattle.plan.specs.Limits.{payload_bytes, slot_bytes}
use Rattle.plan.specs.Plan.{queue_at, size_at, slots_of}
use Rattle.plan.specs.Rules.{sound_plan}
use Rattle.plan.specs.Sound.{Sound, sound_iff}
use Rattle.history.specs.Types.{Plan}
use Rattle.planning.specs.AcceptedPlan.{Made}
use Rattle.mailbox.specs.Calls.{start_lines, start_answer}
use Rattle.plan.specs.Verdicts.{passed_clear}
use Rattle.history.specs.History.{Begins}
use Rattle.history.proofs.Ground.{Fitting, valid_at}
use Rattle.history.proofs.Short.{Short, too_small}
use Rattle.history.proofs.Resized.{resized, resized_size, resized_sound}
use Rattle.history.proofs.Least.{Lost, loses}

-- memory of just enough zero bytes
abbrev pub blank : Plan → List ℕ
blank p = replicate (slots_of p * slot_bytes) 0

-- a start on it is accepted
pub blank_begins : (p : Plan) → sound_plan p ≡ true → Begins p (blank p)
unfolding start_answer
blank_begins p sound =
    record {
      ready = passed_clear (start_lines p (blank p)) (
        rw sound,
        (
          le-ltb (length (blank p)) (slots_of p * slot_bytes) (omega (arith, length-replicate {A = ℕ} (slots_of p * slot_bytes) 0)),
          tt,
        ),
      );
    }

module _ {p : Plan} (made : Made p) where
  abbrev sound_plan_lem : Sound p
  sound_plan_lem = (sound_iff p).0 made.sound

  pub made_fits : Fitting p
  made_fits = record {
    sound = sound_plan_lem;
    fit = λ q h. rw (made.least q h) (slots_fit (queue_at p q) (valid_at sound_plan_lem q h));
  }

  -- with any smaller size a message can be lost
  pub loses_one : (q L : ℕ) → q < p.queues → 1 ≤ L → L < size_at p q → Lost (resized p q L) q
  loses_one q L h pos less =
      let small : Sound (resized p q L) = resized_sound p sound_plan_lem q L pos (omega arith) in
      let gap : Short (queue_at p q) L = too_small (queue_at p q) (valid_at sound_plan_lem q h) L (omega (arith, made.least q h)) in
      loses small (blank_begins (resized p q L) ((sound_iff (resized p q L)).1 small)) q h (replicate payload_bytes 0)
      (length-replicate {A = ℕ} payload_bytes 0)
      (subst (λ (x : ℕ). Short (queue_at p q) x) (sym (resized_size p sound_plan_lem q L h)) gap) (made.short q h)
