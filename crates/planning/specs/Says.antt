-- What planning answers in document 01's numbers. The console's line for a plan is start's, so an acceptance has code 0 here and no values.
use Rattle.std.specs.Prelude.{◌&&◌, ◌∷◌, ◌++◌, ◌≡◌, Ok, Err}
use Rattle.common.specs.Words.{ℕ, Bool, cond, not, List, [], ap, ◌∙◌, ltb}
use Rattle.common.specs.Totals.{sum}
use Rattle.plan.specs.Limits.{most_slots}
use Rattle.plan.specs.Rules.{counts_good, bad_task, bad_queue}
use Rattle.plan.specs.Says.{Said, refused_says, no}
use Rattle.plan.specs.Refusals.{Verdict}
use Rattle.plan.specs.Verdicts.{judged_map}
use Rattle.sizing.specs.Cycle.{cycle_short}
use Rattle.tables.specs.Table.{tabled}
use Rattle.places.specs.Places.{long_queue, least_size}
use Rattle.planning.specs.Planning.{refused_plan, first_lines, table_lines, accepted_plan, plan_of}
use Rattle.planning.specs.AcceptedPlan.{plan_lines}
use Rattle.planning.specs.declared.Planned.{Planned}

abbrev pub answer_says : Verdict → Said
answer_says (Ok x) = (0, [])
answer_says (Err r) = refused_says r

-- "A refusal of 2 to 5 names the first bad row from 0"
abbrev pub bad : ℕ → ℕ → Said
bad line row = (0x7f, line ∷ row ∷ [])

-- "Planning tests 1; 2 by rows; 3 by queues; then 4 before 5 queue by queue; then 6."
pub plan_says : (tasks queues : ℕ) (period deadline priority receiver : List ℕ) (square : List (List Bool)) →
    let t = tabled tasks queues period deadline priority receiver square in
    answer_says (plan_of tasks queues period deadline priority receiver square).answer
    ≡ cond (not (counts_good tasks queues)) (no 1)
    (cond (ltb (bad_task period deadline tasks) tasks) (bad 2 (bad_task period deadline tasks))
    (cond (ltb (bad_queue square receiver tasks queues) queues) (bad 3 (bad_queue square receiver tasks queues))
    (cond (ltb (long_queue t) queues && not (cycle_short t (long_queue t))) (bad 4 (long_queue t))
    (cond (ltb (long_queue t) queues) (bad 5 (long_queue t))
    (cond (ltb most_slots (sum (least_size t) queues)) (no 6)
    (0, []))))))
unfolding tabled
plan_says tasks queues period deadline priority receiver square =
    let t = tabled tasks queues period deadline priority receiver square in
    let lines = first_lines tasks queues period deadline receiver square ++ table_lines t in
    ap (λ (x : Planned). answer_says x.answer) (plan_lines tasks queues period deadline priority receiver square)
    ∙ judged_map (λ (x : Planned). answer_says x.answer) lines refused_plan (accepted_plan t)
