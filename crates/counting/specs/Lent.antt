-- What counting asks of a plan's queue: rules 1 to 3 of its senders' rows. The receiver is not asked for, since no count depends on it, and
-- planning counts for queues whose receiver it has not tested. Priorities are not asked for either; only the order of equal deadlines
-- depends on them. The laws of `altered_at` say both.
use Rattle.std.specs.Prelude.{◌-◌, ◌<◌, ◌≤◌, ◌≡◌}
use Rattle.common.specs.Words.{ℕ, arith, refl, get_or}
use Rattle.model.specs.Model.{Queue, Valid, due_at, precedes, up_to, followers, tick_of, sent_by, sender_of}
use Rattle.plan.specs.Limits.{task_limit, queue_limit, longest_period}
use Rattle.plan.specs.Plan.{queue_at, sends_into, Usable}
use Rattle.plan.specs.declared.Plan.{Plan}

-- equation 2 at the tick of a deadline
abbrev pub number_due : Queue → ℕ → ℕ → ℕ
number_due q t i = up_to q t - followers q t i

-- a plan's queue with other priorities and another receiver
abbrev pub altered_at : Plan → ℕ → (ℕ → ℕ) → ℕ → Queue
altered_at p q priority receiver = record {
  rows = p.tasks;
  period = λ i. get_or p.period i 0;
  deadline = λ i. get_or p.deadline i 0;
  priority = priority;
  sends = sends_into p q;
  receiver = receiver;
}

-- the queue with row 0 in the receiver's place
abbrev pub counted_at : Plan → ℕ → Queue
counted_at p q = altered_at p q (queue_at p q).priority 0

-- what rules 1 to 3 leave of a plan's queue but for its receiver
pub record Lent (p : Plan) (q : ℕ) : Type 0 where
  pub tasks_fit : p.tasks ≤ task_limit
  pub queue_fits : q < queue_limit
  pub periods_fit : (i : ℕ) → i < p.tasks → get_or p.period i 0 ≤ longest_period
  pub valid : Valid (counted_at p q)

module _ (p : Plan) (q : ℕ) where
  pub lent : Usable p q → Lent p q
  lent u = record {
    tasks_fit = u.tasks_fit;
    queue_fits = u.queue_fits;
    periods_fit = u.periods_fit;
    valid = record {
      receiver_row = omega (arith, u.valid.receiver_row);
      deadline_pos = u.valid.deadline_pos;
      deadline_fits = u.valid.deadline_fits;
    };
  }

  -- priorities do not change what is valid
  pub valid_altered : Lent p q → (priority : ℕ → ℕ) → Valid (altered_at p q priority 0)
  valid_altered l priority = record {
    receiver_row = l.valid.receiver_row;
    deadline_pos = l.valid.deadline_pos;
    deadline_fits = l.valid.deadline_fits;
  }

  -- neither priorities nor the receiver change a count,
  pub up_to_altered : (priority : ℕ → ℕ) (receiver t : ℕ) → up_to (altered_at p q priority receiver) t ≡ up_to (queue_at p q) t
  unfolding up_to
  up_to_altered priority receiver t = refl

  pub tick_of_altered : (priority : ℕ → ℕ) (receiver most n : ℕ) →
      tick_of (altered_at p q priority receiver) most n ≡ tick_of (queue_at p q) most n
  unfolding tick_of up_to
  tick_of_altered priority receiver most n = refl

  -- and the receiver does not change the order
  pub number_due_altered : (receiver t i : ℕ) →
      number_due (altered_at p q (queue_at p q).priority receiver) t i ≡ number_due (queue_at p q) t i
  unfolding up_to followers due_at precedes
  number_due_altered receiver t i = refl

  pub sent_by_altered : (receiver t n i : ℕ) →
      sent_by (altered_at p q (queue_at p q).priority receiver) t n i ≡ sent_by (queue_at p q) t n i
  unfolding up_to followers due_at precedes
  sent_by_altered receiver t n i = refl

  pub sender_of_altered : (receiver most n : ℕ) →
      sender_of (altered_at p q (queue_at p q).priority receiver) most n ≡ sender_of (queue_at p q) most n
  unfolding sender_of tick_of up_to followers due_at precedes
  sender_of_altered receiver most n = refl
