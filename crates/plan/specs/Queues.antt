-- A plan as the model sees it: queue q of a plan, its size and its place. There are definitions only.
use Rattle.std.specs.Prelude.{◌+◌, ◌*◌}
use Rattle.common.specs.Words.{ℕ, Bool, false, get_or, replicate}
use Rattle.common.specs.Terms.{sum}
use Rattle.model.specs.Model.{Queue}
use Rattle.plan.specs.Limits.{task_limit, queue_limit, cell_limit}
use Rattle.plan.specs.declared.Plan.{Plan}

abbrev pub zeros : Plan
zeros = record {
  tasks = 0;
  queues = 0;
  period = replicate task_limit 0;
  deadline = replicate task_limit 0;
  priority = replicate task_limit 0;
  receiver = replicate queue_limit 0;
  sends = replicate cell_limit false;
  size = replicate queue_limit 0;
  place = replicate queue_limit 0;
}

-- "which of 16 tasks send into which of 8 queues"
abbrev pub sends_into : Plan → ℕ → ℕ → Bool
sends_into p q i = get_or p.sends (q * task_limit + i) false

abbrev pub queue_at : Plan → ℕ → Queue
queue_at p q = record {
  rows = p.tasks;
  period = λ i. get_or p.period i 0;
  deadline = λ i. get_or p.deadline i 0;
  priority = λ i. get_or p.priority i 0;
  sends = sends_into p q;
  receiver = get_or p.receiver q 0;
}

abbrev pub size_at : Plan → ℕ → ℕ
size_at p q = get_or p.size q 0

abbrev pub place_at : Plan → ℕ → ℕ
place_at p q = get_or p.place q 0

-- the slots of all queues together
abbrev pub slots_of : Plan → ℕ
slots_of p = sum (size_at p) p.queues
