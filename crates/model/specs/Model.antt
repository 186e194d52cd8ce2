-- The periodic-delayed model, after source 000 (Cadoret and others), sections II and III, in document 01's words: definitions that compute.
-- Ticks, jobs and slots count from 0, message numbers from 1. Requests change three rules: `has_deadline`, `precedes`, `wanted_for`.
use Rattle.std.specs.Prelude.{◌+◌, ◌-◌, ◌*◌, ◌/◌, ◌%◌, ◌<◌, ◌≤◌, ◌&&◌, ◌≡◌}
use Rattle.common.specs.Words.{ℕ, zero, suc, Bool, true, cond, not, leb, ltb, eqb}
use Rattle.common.specs.Terms.{only, sum, most, first_bad}
unfoldable pub use Rattle.common.specs.Terms.{euclid, gcd, lcm}

-- One task, with period P and deadline D. "Job k (from 0) is released at kP, has its deadline at kP + D."
abbrev pub released : ℕ → ℕ → ℕ
released P k = k * P

abbrev pub due : ℕ → ℕ → ℕ → ℕ
due P D k = k * P + D

-- Equation 1, one task's share: its jobs with deadlines up to t. "Before tick 0 the count is 0", and so it is before the first deadline.
unfoldable pub count : ℕ → ℕ → ℕ → ℕ
count P D t = cond (ltb t D) 0 ((t - D) / P + 1)

-- Collide(s, t): one of its jobs has its deadline at t.
unfoldable pub has_deadline : ℕ → ℕ → ℕ → Bool
has_deadline P D t = leb D t && eqb ((t - D) % P) 0

-- "A queue has one receiver and at least one sender." The tasks are the rows of a table, and each column is a function of the row.
pub record Queue : Type 0 where
  pub rows : ℕ
  pub period : ℕ → ℕ
  pub deadline : ℕ → ℕ
  pub priority : ℕ → ℕ
  pub sends : ℕ → Bool
  pub receiver : ℕ

abbrev pub receiver_period : Queue → ℕ
receiver_period q = q.period q.receiver

abbrev pub receiver_deadline : Queue → ℕ
receiver_deadline q = q.deadline q.receiver

-- "A task has a period P .. and a deadline D from 1 to P." The receiver is a task.
pub record Valid (q : Queue) : Type 0 where
  pub receiver_row : q.receiver < q.rows
  pub deadline_pos : (i : ℕ) → i < q.rows → 1 ≤ q.deadline i
  pub deadline_fits : (i : ℕ) → i < q.rows → q.deadline i ≤ q.period i

-- Row i is a sender of the queue: its messages, by row and job, are (i, 0), (i, 1), ..
pub record Sender (q : Queue) (i : ℕ) : Type 0 where
  pub row : i < q.rows
  pub on : q.sends i ≡ true

abbrev pub release_of : Queue → ℕ → ℕ → ℕ
release_of q i k = released (q.period i) k

abbrev pub deadline_of : Queue → ℕ → ℕ → ℕ
deadline_of q i k = due (q.period i) (q.deadline i) k

-- Of two messages with equal deadlines row i's goes before row j's: "the higher goes first, and equal priorities go by row" (request b).
unfoldable pub precedes : Queue → ℕ → ℕ → Bool
precedes q i j = cond (eqb (q.priority i) (q.priority j)) (ltb i j) (ltb (q.priority j) (q.priority i))

abbrev pub count_of : Queue → ℕ → ℕ → ℕ
count_of q t j = count (q.period j) (q.deadline j) t

-- Equation 1, SEJD(q, t): the messages of the queue with deadlines up to t; row j's share, and the sum.
abbrev pub row_up_to : Queue → ℕ → ℕ → ℕ
row_up_to q t j = only (q.sends j) (count_of q t j)

unfoldable pub up_to : Queue → ℕ → ℕ
up_to q t = sum (row_up_to q t) q.rows

-- Row j sends and has a deadline at t.
unfoldable pub due_at : Queue → ℕ → ℕ → Bool
due_at q t j = q.sends j && has_deadline (q.period j) (q.deadline j) t

-- Followers(q, i, k): the messages with deadline t that go after row i's; row j's share, and the sum.
abbrev pub row_followers : Queue → ℕ → ℕ → ℕ → ℕ
row_followers q t i j = only (due_at q t j) (only (precedes q i j) 1)

unfoldable pub followers : Queue → ℕ → ℕ → ℕ
followers q t i = sum (row_followers q t i) q.rows

-- Equation 2, MSN(q, i, k): the number of message (i, k).
unfoldable pub number : Queue → ℕ → ℕ → ℕ
number q i k = up_to q (deadline_of q i k) - followers q (deadline_of q i k) i

-- The way back from a number. The deadline of message n is the least tick with n messages up to it, here looked for up to a last tick,
unfoldable pub tick_of : Queue → ℕ → ℕ → ℕ
tick_of q last_tick n = first_bad (λ t. ltb (up_to q t) n) last_tick

-- its sender the row whose message with that deadline has the number n,
abbrev pub sent_by : Queue → ℕ → ℕ → ℕ → Bool
sent_by q t n i = due_at q t i && eqb (up_to q t - followers q t i) n

unfoldable pub sender_of : Queue → ℕ → ℕ → ℕ
sender_of q last_tick n = first_bad (λ i. not (sent_by q (tick_of q last_tick n) n i)) q.rows

-- and its job the one with that deadline.
unfoldable pub job_of : Queue → ℕ → ℕ → ℕ
job_of q last_tick n = (tick_of q last_tick n - q.deadline (sender_of q last_tick n)) / q.period (sender_of q last_tick n)

-- ## Windows
-- "Job m of a receiver with period R has the window of all messages with deadlines in ((m-1)R, mR]": numbers `first` to `last`, if any.
unfoldable pub last : Queue → ℕ → ℕ
last q m = up_to q (released (receiver_period q) m)

abbrev pub first : Queue → ℕ → ℕ
first q m = last q (m - 1) + 1

-- "It is wanted until the receiver's job deadline, mR + the receiver's D": so long after the release of the job that is given it,
unfoldable pub wanted_for : Queue → ℕ
wanted_for q = receiver_deadline q

abbrev pub wanted_until : Queue → ℕ → ℕ
wanted_until q m = released (receiver_period q) m + wanted_for q

-- The last deadline whose messages are outdated at tick r, and how many messages that makes (law `outdated_counts`).
unfoldable pub horizon : Queue → ℕ → ℕ
horizon q r = released (receiver_period q) ((r - wanted_for q) / receiver_period q)

unfoldable pub outdated : Queue → ℕ → ℕ
outdated q r = up_to q (horizon q r)

-- ## How many slots
-- "The hyperperiod of a queue is the least common multiple of the periods of its senders and its receiver": first of its first n rows.
unfoldable pub multiple : Queue → ℕ → ℕ
multiple q zero = receiver_period q
multiple q (suc n) = cond (q.sends n) (lcm (multiple q n) (q.period n)) (multiple q n)

unfoldable pub hyperperiod : Queue → ℕ
hyperperiod q = multiple q q.rows

-- The messages of H ticks: row j's share, and the sum.
abbrev pub row_messages : Queue → ℕ → ℕ → ℕ
row_messages q H j = only (q.sends j) (H / q.period j)

unfoldable pub messages : Queue → ℕ → ℕ
messages q H = sum (row_messages q H) q.rows

-- The slots that message (i, k) asks for: it and all before it that are not outdated when its job is released.
unfoldable pub need : Queue → ℕ → ℕ → ℕ
need q i k = number q i k - outdated q (release_of q i k)

-- "The plan gives each queue its least fit L": the most that a job of the second hyperperiod asks for (law `slots_iff`).
unfoldable pub row_slots : Queue → ℕ → ℕ → ℕ
row_slots q H i = most (λ k. need q i (H / q.period i + k)) (H / q.period i)

unfoldable pub slots_over : Queue → ℕ → ℕ
slots_over q H = most (λ i. only (q.sends i) (row_slots q H i)) q.rows

unfoldable pub slots : Queue → ℕ
slots q = slots_over q (hyperperiod q)
