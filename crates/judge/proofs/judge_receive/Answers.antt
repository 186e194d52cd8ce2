-- `judge_receive`: what the tests before leave of the receiver's row.
use Rattle.std.specs.Prelude.{◌<◌, ◌≡◌}
use Rattle.common.specs.Words.{ℕ, List, refl, arith, rules}
use Rattle.plan.specs.Limits.{task_limit}
use Rattle.plan.specs.Plan.{queue_at, Usable}
use Rattle.plan.specs.Sound.{usable}
use Rattle.plan.specs.Verdicts.{Verdict, clear, verdict}
use Rattle.plan.specs.declared.Plan.{Plan}
use Rattle.judge.specs.Lines.{start_lines}
use Rattle.judge.specs.Taken.{ground_clear, receiver_fits}
use Rattle.judge.proofs.judge_receive.Goals as goal

-- where neither rule 7 nor rule 9 applied
module _ (p : Plan) (m : List ℕ) (q : ℕ) {v : Verdict} (e : v ≡ verdict (start_lines p m)) (h : v ≡ clear) (l : q < p.queues) where
  known : Usable p q
  known = usable (ground_clear p m e h).sound q l

  row : (queue_at p q).receiver < task_limit
  row = omega (arith, known.valid.receiver_row, known.tasks_fit)

pub offset_bounds-plan-queue : goal.offset_bounds-plan-queue
offset_bounds-plan-queue c =
    search (rules, (known _ _ _ c.judge_plan.ensures c.in_ok-judge_plan.was c.if-plan-queue.false).queue_fits)

pub bounds-plan-queue : goal.bounds-plan-queue
bounds-plan-queue c = (known _ _ _ c.judge_plan.ensures c.in_ok-judge_plan.was c.if-plan-queue.false).queue_fits

pub offset_bounds-plan-row : goal.offset_bounds-plan-row
offset_bounds-plan-row c = search (rules, row _ _ _ c.judge_plan.ensures c.in_ok-judge_plan.was c.if-plan-queue.false)

pub bounds-plan-row : goal.bounds-plan-row
bounds-plan-row c = row _ _ _ c.judge_plan.ensures c.in_ok-judge_plan.was c.if-plan-queue.false

pub offset_bounds-plan-row-2 : goal.offset_bounds-plan-row-2
offset_bounds-plan-row-2 c = search (rules, row _ _ _ c.judge_plan.ensures c.in_ok-judge_plan.was c.if-plan-queue.false)

pub bounds-plan-row-2 : goal.bounds-plan-row-2
bounds-plan-row-2 c = row _ _ _ c.judge_plan.ensures c.in_ok-judge_plan.was c.if-plan-queue.false

pub judge_wanting-requires : goal.judge_wanting-requires
judge_wanting-requires c =
    rw (c.wanted_for.ensures (queue_at c.args.tested.plan.now c.args.queue) refl)
    (receiver_fits (known _ _ _ c.judge_plan.ensures c.in_ok-judge_plan.was c.if-plan-queue.false))
