-- `soundness::sound`: each rule that is broken makes the plan unsound, and where rules 1 to 3 are kept the rest is sizes and places.
use Rattle.std.specs.Prelude.{◌<◌, ◌≤◌, ◌≡◌}
use Rattle.common.specs.Words.{ℕ, true, false, sym, ◌∙◌}
use Rattle.common.specs.Tests.{as_tested}
use Rattle.common.proofs.Rows.{first_bad, every_breaks, every_passes}
use Rattle.plan.specs.Limits.{task_limit, queue_limit}
use Rattle.plan.specs.Square.{square_of}
use Rattle.plan.specs.Rules.{counts_good, task_good_at, queue_good_at, bad_task, bad_queue, places_good, checked_plan, sound_plan}
use Rattle.plan.specs.Facts.{counts_iff}
use Rattle.plan.specs.Connections.{bad_queue_same, own_agrees}
use Rattle.plan.proofs.Found.{is_found, not_found}
use Rattle.plan.specs.declared.Plan.{Plan}
use Rattle.soundness.proofs.sound.Goals as goal

module _ (p : Plan) (counts : counts_good p.tasks p.queues ≡ true) where
  tasks_fit : p.tasks ≤ task_limit
  tasks_fit = ((counts_iff p.tasks p.queues).0 counts).0.1

  queues_fit : p.queues ≤ queue_limit
  queues_fit = ((counts_iff p.tasks p.queues).0 counts).1.1

  bad_task_lem : bad_task p.period p.deadline p.tasks < p.tasks → sound_plan p ≡ false
  unfolding sound_plan checked_plan
  bad_task_lem l = rw (counts, every_breaks (task_good_at p) p.tasks l)

  -- of the square that the code makes of the plan
  abbrev bad_row : ℕ
  bad_row = bad_queue (square_of p.sends) p.receiver p.tasks p.queues

  same : bad_row ≡ first_bad (queue_good_at p) p.queues
  same = bad_queue_same p (square_of p.sends) (own_agrees p queues_fit)

  module _ (tasks : p.tasks ≤ bad_task p.period p.deadline p.tasks) where
    bad_queue_lem : bad_row < p.queues → sound_plan p ≡ false
    unfolding sound_plan checked_plan
    bad_queue_lem l =
        rw (counts, every_passes (task_good_at p) p.tasks tasks, every_breaks (queue_good_at p) p.queues (rw same at l))

    good_queues : p.queues ≤ bad_row → sound_plan p ≡ places_good p
    unfolding sound_plan checked_plan
    good_queues l =
        rw (counts, every_passes (task_good_at p) p.tasks tasks, every_passes (queue_good_at p) p.queues (rw same at l))

pub returns-then-not-counts_good : goal.returns-then-not-counts_good
unfolding sound_plan checked_plan
returns-then-not-counts_good c =
    let e : c.counts_good.result ≡ false = c.if-not-counts_good.true in
    rw (← c.counts_good.ensures, e)

pub first_bad_task-requires : goal.first_bad_task-requires
first_bad_task-requires c =
    tasks_fit c.args.plan.now (as_tested c.counts_good.ensures c.if-not-counts_good.false)

pub returns-then-is_some : goal.returns-then-is_some
returns-then-is_some c =
    sym
    (bad_task_lem c.args.plan.now (as_tested c.counts_good.ensures c.if-not-counts_good.false)
    (is_found _ _ (rw (c.is_some.ensures, c.first_bad_task.ensures) at c.if-is_some.true)))

pub first_bad_queue-requires : goal.first_bad_queue-requires
first_bad_queue-requires c =
    queues_fit c.args.plan.now (as_tested c.counts_good.ensures c.if-not-counts_good.false)

pub returns-then-is_some-2 : goal.returns-then-is_some-2
returns-then-is_some-2 c =
    sym
    (bad_queue_lem c.args.plan.now (as_tested c.counts_good.ensures c.if-not-counts_good.false)
    (not_found _ _ (rw (c.is_some.ensures, c.first_bad_task.ensures) at c.if-is_some.false))
    (is_found _ _ (rw (c.is_some-2.ensures, c.first_bad_queue.ensures, c.square_of-square.ensures) at c.if-is_some-2.true)))

pub places_good-requires : goal.places_good-requires
places_good-requires c =
    queues_fit c.args.plan.now (as_tested c.counts_good.ensures c.if-not-counts_good.false)

pub returns : goal.returns
returns c =
    c.places_good.ensures
    ∙ sym
    (good_queues c.args.plan.now (as_tested c.counts_good.ensures c.if-not-counts_good.false)
    (not_found _ _ (rw (c.is_some.ensures, c.first_bad_task.ensures) at c.if-is_some.false))
    (not_found _ _ (rw (c.is_some-2.ensures, c.first_bad_queue.ensures, c.square_of-square.ensures) at c.if-is_some-2.false)))
