-- Rules 1, 2, 3, 7 and 9 of document 01's table, each as the test that a table or a plan has to pass.
-- Rules 1 to 3 are stated over counts, columns and connections, so that planning's table and a plan are tested by the same words.
use Rattle.std.specs.Prelude.{◌&&◌, ◌||◌, Option, Some, None}
use Rattle.common.specs.Words.{ℕ, Bool, cond, not, List, leb, ltb, eqb, get_or}
use Rattle.common.specs.Terms.{sum, every, some, first_bad}
use Rattle.plan.specs.Limits.{task_limit, queue_limit, longest_period, most_slots}
use Rattle.plan.specs.Queues.{sends_into, size_at, place_at, slots_of}
use Rattle.plan.specs.Square.{entry}
use Rattle.plan.specs.declared.Plan.{Plan}

-- n is 1..most
unfoldable pub one_to : ℕ → ℕ → Bool
one_to most n = leb 1 n && leb n most

-- not 1: "task count not 1..16 or queue count not 1..8"
unfoldable pub counts_good : ℕ → ℕ → Bool
counts_good tasks queues = one_to task_limit tasks && one_to queue_limit queues

-- not 2: "a period or deadline out of range", of one task
unfoldable pub task_good : ℕ → ℕ → Bool
task_good period deadline = one_to longest_period period && one_to period deadline

-- not 3: "a receiver or sender that is no task, or a queue with no sender", of one queue
abbrev pub may_send : ℕ → Bool → ℕ → Bool
may_send tasks sends i = not sends || ltb i tasks

unfoldable pub only_tasks_send : ℕ → (ℕ → Bool) → Bool
only_tasks_send tasks sends = every (λ i. may_send tasks (sends i) i) task_limit

-- the first row that sends, and 16 where none does
abbrev pub first_sender : (ℕ → Bool) → ℕ
first_sender sends = first_bad (λ i. not (sends i)) task_limit

unfoldable pub queue_good : ℕ → ℕ → (ℕ → Bool) → Bool
queue_good tasks receiver sends = ltb receiver tasks && (only_tasks_send tasks sends && some sends task_limit)

-- "A refusal of 2 to 5 names the first bad row": the first task that breaks rule 2 and the first queue that breaks rule 3; the count
-- where none does
abbrev pub bad_task : List ℕ → List ℕ → ℕ → ℕ
bad_task period deadline tasks = first_bad (λ i. task_good (get_or period i 0) (get_or deadline i 0)) tasks

abbrev pub bad_queue : List (List Bool) → List ℕ → ℕ → ℕ → ℕ
bad_queue square receiver tasks queues = first_bad (λ q. queue_good tasks (get_or receiver q 0) (entry square q)) queues

-- the answer of a search for it: the row, and none where it is the count
abbrev pub row_below : ℕ → ℕ → Option ℕ
row_below n row = cond (ltb row n) (Some row) None

abbrev pub task_good_at : Plan → ℕ → Bool
task_good_at p i = task_good (get_or p.period i 0) (get_or p.deadline i 0)

abbrev pub queue_good_at : Plan → ℕ → Bool
queue_good_at p q = queue_good p.tasks (get_or p.receiver q 0) (sends_into p q)

-- of one queue: its size is 1..1,024, and its place is the sum of the sizes before
unfoldable pub place_good : ℕ → ℕ → ℕ → Bool
place_good size place before = one_to most_slots size && eqb place before

abbrev pub place_good_at : Plan → ℕ → Bool
place_good_at p q = place_good (size_at p q) (place_at p q) (sum (size_at p) q)

-- "a size is not 1..1,024, places are not the running sums of the sizes from 0, or the total is over 1,024"
unfoldable pub places_good : Plan → Bool
places_good p = every (place_good_at p) p.queues && leb (slots_of p) most_slots

-- "plan breaks 1 to 3"
unfoldable pub checked_plan : Plan → Bool
checked_plan p =
    counts_good p.tasks p.queues && (every (task_good_at p) p.tasks && every (queue_good_at p) p.queues)

-- not 7
unfoldable pub sound_plan : Plan → Bool
sound_plan p = checked_plan p && places_good p

-- not 9: "no such queue or task, or the task doesn't send there"
abbrev pub connected : Plan → ℕ → ℕ → Bool
connected p q i = ltb q p.queues && (ltb i p.tasks && sends_into p q i)
