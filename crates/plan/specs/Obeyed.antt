-- What it means that a rule of document 01's table is obeyed, in plain facts. Each test of Rules passes exactly when its facts hold
-- (laws of Facts and Sound). There are definitions only.
use Rattle.std.specs.Prelude.{◌<◌, ◌≤◌, ◌≡◌}
use Rattle.common.specs.Words.{ℕ, Bool, true, get_or}
use Rattle.common.specs.Terms.{sum}
use Rattle.plan.specs.Limits.{task_limit, queue_limit, longest_period, most_slots}
use Rattle.plan.specs.Queues.{sends_into, size_at, place_at, slots_of}
use Rattle.plan.specs.declared.Plan.{Plan}

-- n is 1..most
abbrev pub OneTo : ℕ → ℕ → Type 0
OneTo most n = (1 ≤ n) × (n ≤ most)

-- rule 1
abbrev pub Counts : ℕ → ℕ → Type 0
Counts tasks queues = OneTo task_limit tasks × OneTo queue_limit queues

-- rule 2, of one task with period P and deadline D
abbrev pub Task : ℕ → ℕ → Type 0
Task P D = OneTo longest_period P × OneTo P D

-- rule 3, of one queue: its receiver is a task, only tasks send into it, and one does
abbrev pub OnlyTasks : ℕ → (ℕ → Bool) → Type 0
OnlyTasks tasks sends = (i : ℕ) → i < task_limit → sends i ≡ true → i < tasks

abbrev pub SomeSender : (ℕ → Bool) → Type 0
SomeSender sends = (i : ℕ) × (i < task_limit) × (sends i ≡ true)

abbrev pub Connected : ℕ → ℕ → (ℕ → Bool) → Type 0
Connected tasks receiver sends = (receiver < tasks) × (OnlyTasks tasks sends × SomeSender sends)

-- Rules 1 to 3 are obeyed: what planning finds out before it has sizes.
pub record Checked (p : Plan) : Type 0 where
  -- 1
  pub some_task : 1 ≤ p.tasks
  pub tasks_fit : p.tasks ≤ task_limit
  pub some_queue : 1 ≤ p.queues
  pub queues_fit : p.queues ≤ queue_limit
  -- 2
  pub period_fits : (i : ℕ) → i < p.tasks → get_or p.period i 0 ≤ longest_period
  pub deadline_pos : (i : ℕ) → i < p.tasks → 1 ≤ get_or p.deadline i 0
  pub deadline_fits : (i : ℕ) → i < p.tasks → get_or p.deadline i 0 ≤ get_or p.period i 0
  -- 3
  pub receiver_row : (q : ℕ) → q < p.queues → get_or p.receiver q 0 < p.tasks
  pub sender_row : (q : ℕ) → q < p.queues → OnlyTasks p.tasks (sends_into p q)
  pub some_sender : (q : ℕ) → q < p.queues → SomeSender (sends_into p q)

-- Rule 7 is obeyed.
pub record Sound (p : Plan) : Type 0 where
  pub checked : Checked p
  pub size_pos : (q : ℕ) → q < p.queues → 1 ≤ size_at p q
  pub size_fits : (q : ℕ) → q < p.queues → size_at p q ≤ most_slots
  pub place_is : (q : ℕ) → q < p.queues → place_at p q ≡ sum (size_at p) q
  pub total_fits : slots_of p ≤ most_slots
