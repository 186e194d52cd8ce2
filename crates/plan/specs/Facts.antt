-- Rules 1, 2, 3 and 9 and the sizes and places of rule 7 in plain facts: each test of Rules passes exactly when its facts hold.
use Rattle.std.specs.Prelude.{◌<◌, ◌≤◌, ◌&&◌, ◌↔◌, ◌≡◌}
use Rattle.common.specs.Words.{ℕ, Bool, true, false, refl, leb, ltb, eqb, ltb-true, lt-ltb, leb-true, le-leb, eqb-true, eq-eqb}
use Rattle.common.specs.Tests.{clash, both, and_iff}
use Rattle.common.proofs.Rows.{every_iff, some, some_iff}
use Rattle.model.specs.Model.{Sender}
use Rattle.plan.specs.Limits.{task_limit, queue_limit, longest_period, most_slots}
use Rattle.plan.specs.Rules.{one_to, counts_good, task_good, may_send, only_tasks_send, queue_good, place_good, connected}
use Rattle.plan.specs.Plan.{queue_at}
use Rattle.plan.specs.declared.Plan.{Plan}
pub use Rattle.plan.specs.Obeyed.{OneTo, Counts, Task, OnlyTasks, SomeSender, Connected}

lt_iff : (a b : ℕ) → (ltb a b ≡ true) ↔ (a < b)
lt_iff a b = (ltb-true a b, lt-ltb a b)

pub le_iff : (a b : ℕ) → (leb a b ≡ true) ↔ (a ≤ b)
le_iff a b = (leb-true a b, le-leb a b)

eq_iff : (a b : ℕ) → (eqb a b ≡ true) ↔ (a ≡ b)
eq_iff a b = (eqb-true a b, eq-eqb a b)

one_to_iff : (most n : ℕ) → (one_to most n ≡ true) ↔ OneTo most n
unfolding one_to
one_to_iff most n = and_iff (leb 1 n) (leb n most) (le_iff 1 n) (le_iff n most)

pub counts_iff : (tasks queues : ℕ) → (counts_good tasks queues ≡ true) ↔ Counts tasks queues
unfolding counts_good
counts_iff tasks queues =
    and_iff (one_to task_limit tasks) (one_to queue_limit queues) (one_to_iff task_limit tasks) (one_to_iff queue_limit queues)

pub task_iff : (P D : ℕ) → (task_good P D ≡ true) ↔ Task P D
unfolding task_good
task_iff P D = and_iff (one_to longest_period P) (one_to P D) (one_to_iff longest_period P) (one_to_iff P D)

may_send_iff : (tasks i : ℕ) (b : Bool) → (may_send tasks b i ≡ true) ↔ (b ≡ true → i < tasks)
may_send_iff tasks i true = (λ h e. ltb-true i tasks h, λ f. lt-ltb i tasks (f refl))
may_send_iff tasks i false = (λ h e. absurd (clash e refl), λ f. refl)

pub queue_iff :
    (tasks receiver : ℕ) (sends : ℕ → Bool) → (queue_good tasks receiver sends ≡ true) ↔ Connected tasks receiver sends
unfolding queue_good only_tasks_send
queue_iff tasks receiver sends =
    and_iff (ltb receiver tasks) (only_tasks_send tasks sends && some sends task_limit) (lt_iff receiver tasks)
    (and_iff (only_tasks_send tasks sends) (some sends task_limit)
    (every_iff (λ i. may_send tasks (sends i) i) task_limit (λ i. may_send_iff tasks i (sends i)))
    (some_iff sends task_limit))

-- of rule 7, of one queue: its size is 1..1,024, and its place the sum of the sizes before
abbrev pub Placed : ℕ → ℕ → ℕ → Type 0
Placed size place before = OneTo most_slots size × (place ≡ before)

pub place_iff : (size place before : ℕ) → (place_good size place before ≡ true) ↔ Placed size place before
unfolding place_good
place_iff size place before =
    and_iff (one_to most_slots size) (eqb place before) (one_to_iff most_slots size) (eq_iff place before)

-- rule 9: a connected task is a sender of a counted queue, and no other is
pub connected_iff : (p : Plan) (q i : ℕ) → (connected p q i ≡ true) ↔ ((q < p.queues) × Sender (queue_at p q) i)
connected_iff p q i = (
  λ h.
      let r = both (ltb q p.queues) h in
      let s = both (ltb i p.tasks) r.1 in
      (ltb-true _ _ r.0, record { row = ltb-true _ _ s.0; on = s.1 }),
  λ h. rw (lt-ltb q p.queues h.0, lt-ltb i p.tasks h.1.row, h.1.on),
)
