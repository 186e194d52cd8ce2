-- `judge_send`: what the tests before leave of the task's row.
use Rattle.std.specs.Prelude.{◌≡◌, ◌<◌}
use Rattle.common.specs.Words.{ℕ, Bool, true, refl, List, arith, rules}
use Rattle.plan.specs.Limits.{queue_limit}
use Rattle.plan.specs.Rules.{connected}
use Rattle.plan.specs.Verdicts.{Verdict, clear, verdict}
use Rattle.plan.specs.declared.Plan.{Plan}
use Rattle.judge.specs.Lines.{start_lines}
use Rattle.judge.specs.Taken.{SenderFits, connected_fits, connected_counted, ground_clear, start_sound}
use Rattle.judge.proofs.judge_send.Goals as goal

-- where neither rule 7 nor rule 9 applied
fits : (p : Plan) (m : List ℕ) (q i : ℕ) {v : Verdict} {b : Bool} → v ≡ verdict (start_lines p m) → v ≡ clear →
    b ≡ connected p q i → b ≡ true → (q < queue_limit) × SenderFits p i
fits p m q i e h f g =
    let s = start_sound p m e h in (connected_counted p s q i f (rw g refl), connected_fits p s q i f (rw g refl))

pub connected-requires : goal.connected-requires
connected-requires c =
    let s = (ground_clear _ _ c.judge_plan.ensures c.in_ok-judge_plan.was).sound.checked in (s.queues_fit, s.tasks_fit)

pub overflow_mul-unsent : goal.overflow_mul-unsent
overflow_mul-unsent c =
    search (rules, (fits _ _ _ _ c.judge_plan.ensures c.in_ok-judge_plan.was c.connected.ensures c.if-not-connected.false).0)

pub overflow_add-unsent : goal.overflow_add-unsent
overflow_add-unsent c =
    let f = fits _ _ _ _ c.judge_plan.ensures c.in_ok-judge_plan.was c.connected.ensures c.if-not-connected.false in
    search (rules, f.0, f.1)

pub offset_bounds-sent-queue : goal.offset_bounds-sent-queue
offset_bounds-sent-queue c =
    let f = fits _ _ _ _ c.judge_plan.ensures c.in_ok-judge_plan.was c.connected.ensures c.if-not-connected.false in
    search (rules, f.0, f.1)

pub bounds-sent-queue : goal.bounds-sent-queue
bounds-sent-queue c =
    let f = fits _ _ _ _ c.judge_plan.ensures c.in_ok-judge_plan.was c.connected.ensures c.if-not-connected.false in
    omega (arith, f.0, f.1)

pub offset_bounds-plan-task : goal.offset_bounds-plan-task
offset_bounds-plan-task c =
    search (rules, (fits _ _ _ _ c.judge_plan.ensures c.in_ok-judge_plan.was c.connected.ensures c.if-not-connected.false).1)

pub bounds-plan-task : goal.bounds-plan-task
bounds-plan-task c =
    (fits _ _ _ _ c.judge_plan.ensures c.in_ok-judge_plan.was c.connected.ensures c.if-not-connected.false).1.0

pub bounds-plan-task-2 : goal.bounds-plan-task-2
bounds-plan-task-2 c =
    (fits _ _ _ _ c.judge_plan.ensures c.in_ok-judge_plan.was c.connected.ensures c.if-not-connected.false).1.0

pub judge_running-requires : goal.judge_running-requires
judge_running-requires c =
    (fits _ _ _ _ c.judge_plan.ensures c.in_ok-judge_plan.was c.connected.ensures c.if-not-connected.false).1.1
