-- What request b's promises speak of: rows in another order, senders of one priority, and senders that priorities tell apart.
-- There are definitions only.
use Rattle.std.specs.Prelude.{◌<◌, ◌≡◌}
use Rattle.common.specs.Words.{ℕ, List, get_or}
use Rattle.model.specs.Model.{Queue, Sender, deadline_of}
use Rattle.plan.specs.Queues.{sends_into}
use Rattle.plan.specs.declared.Plan.{Plan}

-- ## Rows in another order

-- Of the rows below n row i goes to row s i, and r leads back.
pub record Permutation (n : ℕ) (s r : ℕ → ℕ) : Type 0 where
  pub to : (i : ℕ) → i < n → s i < n
  pub from : (j : ℕ) → j < n → r j < n
  pub back : (i : ℕ) → i < n → r (s i) ≡ i
  pub forth : (j : ℕ) → j < n → s (r j) ≡ j

-- Queue p is q with row i at row s i, whatever the priorities are.
pub record Permuted (q p : Queue) (s r : ℕ → ℕ) : Type 0 where
  pub rows : p.rows ≡ q.rows
  pub order : Permutation q.rows s r
  pub period : (i : ℕ) → i < q.rows → p.period (s i) ≡ q.period i
  pub deadline : (i : ℕ) → i < q.rows → p.deadline (s i) ≡ q.deadline i
  pub sends : (i : ℕ) → i < q.rows → p.sends (s i) ≡ q.sends i
  pub receiver : p.receiver ≡ s q.receiver

-- "Two tables that are permutations of one another's rows": b's table is a's with row i at row s i. A queue's receiver and senders are the
-- same tasks.
pub record Sorted (a b : Plan) (s r : ℕ → ℕ) : Type 0 where
  pub tasks : b.tasks ≡ a.tasks
  pub queues : b.queues ≡ a.queues
  pub order : Permutation a.tasks s r
  pub period : (i : ℕ) → i < a.tasks → get_or b.period (s i) 0 ≡ get_or a.period i 0
  pub deadline : (i : ℕ) → i < a.tasks → get_or b.deadline (s i) 0 ≡ get_or a.deadline i 0
  pub priority : (i : ℕ) → i < a.tasks → get_or b.priority (s i) 0 ≡ get_or a.priority i 0
  pub receiver : (q : ℕ) → q < a.queues → get_or b.receiver q 0 ≡ s (get_or a.receiver q 0)
  pub sends : (q i : ℕ) → q < a.queues → i < a.tasks → sends_into b q (s i) ≡ sends_into a q i

-- ## Priorities

-- "no two senders of a queue have both equal priority and a deadline in common"
abbrev pub Told : Queue → Type 0
Told q = (i k j l : ℕ) → Sender q i → Sender q j → deadline_of q i k ≡ deadline_of q j l → q.priority i ≡ q.priority j → i ≡ j

-- "all senders of a queue have one priority"
abbrev pub OnePriority : Queue → Type 0
OnePriority q = (i j : ℕ) → Sender q i → Sender q j → q.priority i ≡ q.priority j

-- "as by row alone": all tasks have priority 0
abbrev pub by_row : Queue → Queue
by_row q = record {
  rows = q.rows;
  period = q.period;
  deadline = q.deadline;
  priority = λ i. 0;
  sends = q.sends;
  receiver = q.receiver;
}

-- a plan with other priorities
abbrev pub with_priority : Plan → List ℕ → Plan
with_priority p priority = record {
  tasks = p.tasks;
  queues = p.queues;
  period = p.period;
  deadline = p.deadline;
  priority = priority;
  receiver = p.receiver;
  sends = p.sends;
  size = p.size;
  place = p.place;
}
