-- "with any smaller one (at least 1), places reckoned anew, some sequence of accepted sends and receives from a start reports a sent
-- message as a gap": the plan with another size for one queue, and what such a sequence is. There are definitions only.
use Rattle.std.specs.Prelude.{◌≡◌}
use Rattle.common.specs.Words.{ℕ, cond, List, eqb, ltb}
use Rattle.common.specs.Terms.{only, sum, table}
use Rattle.calendar.specs.Calendar.{message}
use Rattle.plan.specs.Limits.{queue_limit}
use Rattle.plan.specs.Queues.{size_at}
use Rattle.history.specs.Types.{Plan, Received}
use Rattle.history.specs.History.{History, Begins, world, receive_says, SentIn, AllAccepted}

-- the sizes, with L for queue q's
abbrev pub size_with : Plan → ℕ → ℕ → ℕ → ℕ
size_with p q L r = cond (eqb r q) L (size_at p r)

-- Queue q has L slots, and each queue begins where the sizes before it end; whatever is beyond the counted queues is as in a plan we make.
abbrev pub resized : Plan → ℕ → ℕ → Plan
resized p q L = record {
  tasks = p.tasks;
  queues = p.queues;
  period = p.period;
  deadline = p.deadline;
  priority = p.priority;
  receiver = p.receiver;
  sends = p.sends;
  size = table (size_with p q L) queue_limit;
  place = table (λ r. only (ltb r p.queues) (sum (size_with p q L) r)) queue_limit;
}

-- From a start, sends and receives that are all accepted: message n of queue q is sent, and then a receive reports it as a gap.
pub record Lost (p : Plan) (q : ℕ) : Type 0 where
  pub memory : List ℕ
  pub begins : Begins p memory
  pub calls : History
  pub all_accepted : AllAccepted p memory calls
  pub n : ℕ
  pub payload : List ℕ
  pub sent : SentIn p memory calls q n payload
  pub t : ℕ
  pub row : ℕ
  pub told : receive_says p (world p memory calls) q t ≡ Received.Gap (message n) row
