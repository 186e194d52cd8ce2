-- `number_of`: what the tests leave is what the inner functions ask for.
use Rattle.std.specs.Prelude.{◌<◌, ◌≡◌}
use Rattle.common.specs.Words.{ℕ, true, sym, ◌∙◌, ltb-false}
use Rattle.common.specs.Tests.{as_tested}
use Rattle.model.specs.Model.{Sender}
use Rattle.plan.specs.Facts.{connected_iff}
use Rattle.plan.specs.Plan.{queue_at, Usable}
use Rattle.plan.specs.Rules.{sound_plan, connected}
use Rattle.plan.specs.Sound.{sound_iff, usable}
use Rattle.plan.specs.declared.Plan.{Plan}
use Rattle.lookups.proofs.number_of.Goals as goal

-- where neither rule 7 nor rule 9 applied
module _ (p : Plan) (q i : ℕ) (s : sound_plan p ≡ true) (j : connected p q i ≡ true) where
  sends : (q < p.queues) × Sender (queue_at p q) i
  sends = (connected_iff p q i).0 j

  queue_usable : Usable p q
  queue_usable = usable ((sound_iff p).0 s) q sends.0

pub connected-requires : goal.connected-requires
connected-requires c =
    let s = ((sound_iff _).0 (as_tested c.sound.ensures c.if-not-sound.false)).checked in (s.queues_fit, s.tasks_fit)

pub deadline_past-requires : goal.deadline_past-requires
deadline_past-requires c =
    let s = as_tested c.sound.ensures c.if-not-sound.false in
    let j = as_tested c.connected.ensures c.if-not-connected.false in
    (queue_usable _ _ _ s j, (sends _ _ c.args.task s j).1.row)

pub number_at-requires : goal.number_at-requires
number_at-requires c =
    let s = as_tested c.sound.ensures c.if-not-sound.false in
    let j = as_tested c.connected.ensures c.if-not-connected.false in
    (queue_usable _ _ _ s j, (sends _ _ _ s j).1, ltb-false _ _ (sym c.deadline_past.ensures ∙ c.if-deadline_past.false))
