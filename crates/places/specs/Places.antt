-- Which queue is too long, and the sizes and places of all queues: the least sizes, and their running sums. The least size of one queue is
-- the model's.
use Rattle.std.specs.Prelude.{◌&&◌}
use Rattle.common.specs.Words.{ℕ, List, ltb, get_or}
use Rattle.common.specs.Terms.{only, sum, first_bad, table}
use Rattle.model.specs.Model.{slots}
use Rattle.plan.specs.Limits.{queue_limit}
use Rattle.plan.specs.Queues.{queue_at}
use Rattle.plan.specs.declared.Plan.{Plan}
use Rattle.sizing.specs.Cycle.{cycle_short, messages_few}

-- of a table t whose rows have passed rules 1 to 3:
-- "then 4 before 5 queue by queue": the first queue that breaks one of them, and the count where none does
unfoldable pub long_queue : Plan → ℕ
long_queue t = first_bad (λ q. cycle_short t q && messages_few t q) t.queues

-- "The plan gives each queue its least fit L."
abbrev pub least_size : Plan → ℕ → ℕ
least_size t q = slots (queue_at t q)

abbrev pub least_sizes : Plan → List ℕ
least_sizes t = table (λ q. only (ltb q t.queues) (least_size t q)) queue_limit

-- "Queues lie in memory in table order, without space between."
abbrev pub running_places : ℕ → List ℕ → List ℕ
running_places queues sizes = table (λ q. only (ltb q queues) (sum (λ r. get_or sizes r 0) q)) queue_limit
