-- What inner functions ask of a plan and are lent of it. A plan's queues, sizes and places are those of Queues, passed on.
use Rattle.std.specs.Prelude.{◌<◌, ◌≤◌}
use Rattle.common.specs.Words.{ℕ, Bool, List, get_or}
use Rattle.model.specs.Model.{Valid}
use Rattle.plan.specs.Limits.{task_limit, queue_limit, longest_period}
use Rattle.plan.specs.declared.Plan.{Plan}
pub use Rattle.plan.specs.Queues.{zeros, sends_into, queue_at, size_at, place_at, slots_of}

-- The plan of lent columns. Inner functions are lent a plan's columns one by one, because a plan by value would be copied at every call.
abbrev pub lent_plan : List Bool → List ℕ → List ℕ → List ℕ → List ℕ → List ℕ → List ℕ → ℕ → ℕ → Plan
lent_plan sends period deadline priority receiver size place tasks queues = record {
  tasks = tasks;
  queues = queues;
  period = period;
  deadline = deadline;
  priority = priority;
  receiver = receiver;
  sends = sends;
  size = size;
  place = place;
}

-- Queue q can be reckoned with: what rules 1 to 3 leave of it. Inner functions ask for this and no more, so that planning, which has
-- no sizes yet, may call them too.
pub record Usable (p : Plan) (q : ℕ) : Type 0 where
  pub tasks_fit : p.tasks ≤ task_limit
  pub queue_fits : q < queue_limit
  pub periods_fit : (i : ℕ) → i < p.tasks → get_or p.period i 0 ≤ longest_period
  pub valid : Valid (queue_at p q)
