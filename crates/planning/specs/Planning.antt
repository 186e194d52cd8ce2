-- What planning answers and the plan that it makes, on every input: rules 1 to 6 in document 01's order, the least sizes, and the
-- places as running sums.
use Rattle.std.specs.Prelude.{◌<◌, ◌≤◌, ◌&&◌, ◌∷◌, ◌≡◌, Err}
use Rattle.common.specs.Words.{ℕ, Bool, true, not, List, [], ltb}
use Rattle.common.specs.Terms.{sum}
use Rattle.model.specs.Model.{hyperperiod, slots}
use Rattle.plan.specs.Limits.{longest_hyperperiod, most_slots}
use Rattle.plan.specs.Queues.{zeros, queue_at, size_at}
use Rattle.plan.specs.Rules.{counts_good, bad_task, bad_queue, sound_plan}
use Rattle.plan.specs.Refusals.{Line, ◌gives◌, named, unnamed, judged, clear}
use Rattle.plan.specs.declared.Plan.{Plan}
use Rattle.plan.specs.declared.refusal.Refusal.{Refusal}
use Rattle.plan.specs.declared.refusal.Rule.TheVariants.{TaskOrQueueCount, PeriodOrDeadline, ReceiverOrSender, HyperperiodTooLong, TooManyMessages}
use Rattle.plan.specs.declared.refusal.Rule.TheVariants.{TooManySlots}
use Rattle.sizing.specs.Cycle.{cycle_short}
use Rattle.tables.specs.Table.{tabled}
use Rattle.places.specs.Places.{long_queue, least_size, least_sizes, running_places}
use Rattle.planning.specs.declared.Planned.{Planned}

-- the plan of a table t whose rows have passed rules 1 to 3
unfoldable pub sized : Plan → Plan
sized t = record {
  tasks = t.tasks;
  queues = t.queues;
  period = t.period;
  deadline = t.deadline;
  priority = t.priority;
  receiver = t.receiver;
  sends = t.sends;
  size = least_sizes t;
  place = running_places t.queues (least_sizes t);
}

-- "A refused planning gives the plan of all zeros"
abbrev pub refused_plan : Refusal → Planned
refused_plan r = record { answer = Err r; plan = zeros }

-- "Planning tests 1; 2 by rows; 3 by queues; then 4 before 5 queue by queue; then 6.": the last three, of a table that has passed the others
abbrev pub slot_line : Plan → Line
slot_line t = ltb most_slots (sum (least_size t) t.queues) gives unnamed TooManySlots

abbrev pub table_lines : Plan → List Line
table_lines t =
    (ltb (long_queue t) t.queues && not (cycle_short t (long_queue t))) gives named HyperperiodTooLong (long_queue t)
    ∷ ltb (long_queue t) t.queues gives named TooManyMessages (long_queue t)
    ∷ slot_line t
    ∷ []

abbrev pub accepted_plan : Plan → Planned
accepted_plan t = record { answer = clear; plan = sized t }

unfoldable pub slots_judged : Plan → Planned
slots_judged t = judged (slot_line t ∷ []) refused_plan (accepted_plan t)

unfoldable pub table_judged : Plan → Planned
table_judged t = judged (table_lines t) refused_plan (accepted_plan t)

-- the first three, and all of them
abbrev pub first_lines : ℕ → ℕ → List ℕ → List ℕ → List ℕ → List (List Bool) → List Line
first_lines tasks queues period deadline receiver square =
    not (counts_good tasks queues) gives unnamed TaskOrQueueCount
    ∷ ltb (bad_task period deadline tasks) tasks gives named PeriodOrDeadline (bad_task period deadline tasks)
    ∷ ltb (bad_queue square receiver tasks queues) queues gives named ReceiverOrSender (bad_queue square receiver tasks queues)
    ∷ []

unfoldable pub plan_of : ℕ → ℕ → List ℕ → List ℕ → List ℕ → List ℕ → List (List Bool) → Planned
plan_of tasks queues period deadline priority receiver square =
    judged (first_lines tasks queues period deadline receiver square) refused_plan
    (table_judged (tabled tasks queues period deadline priority receiver square))

-- "a plan we made": what every accepted planning gives (law `accepted_made`)
pub record Made (p : Plan) : Type 0 where
  pub sound : sound_plan p ≡ true
  pub least : (q : ℕ) → q < p.queues → size_at p q ≡ slots (queue_at p q)
  pub short : (q : ℕ) → q < p.queues → hyperperiod (queue_at p q) ≤ longest_hyperperiod
