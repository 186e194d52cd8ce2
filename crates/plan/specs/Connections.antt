-- A square and a plan that say the same of every counted queue are judged alike by rule 3. Planning's table and the square that rule 7
-- makes of a plan are such squares.
use Rattle.std.specs.Prelude.{◌<◌, ◌≤◌, ◌≡◌}
use Rattle.common.specs.Words.{ℕ, arith, Bool, not, List, get_or}
use Rattle.common.proofs.Rows.{some, first_bad, every_same, first_bad_same}
use Rattle.plan.specs.Limits.{task_limit, queue_limit}
use Rattle.plan.specs.Plan.{sends_into}
use Rattle.plan.specs.Square.{entry, square_of, square_at}
use Rattle.plan.specs.Rules.{may_send, only_tasks_send, queue_good, bad_queue, queue_good_at}
use Rattle.plan.specs.declared.Plan.{Plan}

abbrev pub Agree : Plan → List (List Bool) → Type 0
Agree p square = (q i : ℕ) → q < p.queues → i < task_limit → entry square q i ≡ sends_into p q i

queue_same :
    (tasks receiver : ℕ) (s t : ℕ → Bool) → ((i : ℕ) → i < task_limit → s i ≡ t i) →
    queue_good tasks receiver s ≡ queue_good tasks receiver t
unfolding queue_good only_tasks_send some
queue_same tasks receiver s t h =
    rw (
      every_same (λ i. may_send tasks (s i) i) (λ i. may_send tasks (t i) i) task_limit (λ i l. rw (h i l)),
      first_bad_same (λ i. not (s i)) (λ i. not (t i)) task_limit (λ i l. rw (h i l)),
    )

pub bad_queue_same :
    (p : Plan) (square : List (List Bool)) → Agree p square →
    bad_queue square p.receiver p.tasks p.queues ≡ first_bad (queue_good_at p) p.queues
bad_queue_same p square h =
    first_bad_same (λ q. queue_good p.tasks (get_or p.receiver q 0) (entry square q)) (queue_good_at p) p.queues
    (λ q l. queue_same p.tasks (get_or p.receiver q 0) (entry square q) (sends_into p q) (λ i b. h q i l b))

-- the square of a plan
pub own_agrees : (p : Plan) → p.queues ≤ queue_limit → Agree p (square_of p.sends)
own_agrees p f q i a b = square_at p q i (omega arith) b
