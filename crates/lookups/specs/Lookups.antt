-- The three lookups, on any plan and any numbers: "lookups 7, 9, then 11 or 15", and the good answer where none of these applies.
-- Limits are inclusive at the last tick. In the way back and the window 9 is about the queue alone.
use Rattle.std.specs.Prelude.{◌∷◌, ◌++◌, Ok, Err, Result}
use Rattle.common.specs.Words.{ℕ, not, List, [], ltb, eqb}
use Rattle.model.specs.Model.{receiver_period, released, deadline_of, number, up_to, sender_of, job_of, first, last}
use Rattle.calendar.specs.Calendar.{job, message}
use Rattle.lookups.specs.Types.{Job, Number, Plan, Rule, Refusal, Origin, Window}
use Rattle.plan.specs.Limits.{last_tick}
use Rattle.plan.specs.Queues.{queue_at}
use Rattle.plan.specs.Refusals.{Line, unnamed, ◌gives◌, judged}
use Rattle.plan.specs.Rules.{sound_plan, connected}
use Rattle.plan.specs.Says.{Said, refused_says}

-- "The number lookup takes a queue, a task and a job and answers the number"
abbrev pub number_lines : Plan → ℕ → ℕ → Job → List Line
number_lines p q i k =
    not (sound_plan p) gives unnamed Rule.UnsoundPlan
    ∷ not (connected p q i) gives unnamed Rule.NoSuchSender
    ∷ ltb last_tick (deadline_of (queue_at p q) i k.0) gives unnamed Rule.PastLastTick
    ∷ []

unfoldable pub numbered_of : Plan → ℕ → ℕ → Job → Result Number Refusal
numbered_of p q i k = judged (number_lines p q i k) Err (Ok (message (number (queue_at p q) i k.0)))

-- 7 and 9, about the queue alone
abbrev pub queue_lines : Plan → ℕ → List Line
queue_lines p q =
    not (sound_plan p) gives unnamed Rule.UnsoundPlan ∷ not (ltb q p.queues) gives unnamed Rule.NoSuchSender ∷ []

-- "the way back takes a queue and a number and answers sender and job". A number's deadline is past the last tick exactly where there are
-- fewer messages up to that tick (law `past_iff` of the model's WayBack).
abbrev pub origin_lines : Plan → ℕ → Number → List Line
origin_lines p q n =
    queue_lines p q
    ++ (eqb n.0 0 gives unnamed Rule.NoSuchNumber
    ∷ ltb (up_to (queue_at p q) last_tick) n.0 gives unnamed Rule.NoSuchNumber
    ∷ [])

-- a sender, as its row, and one of its jobs
abbrev pub origin : ℕ → ℕ → Origin
origin i k = record { task = i; job = job k }

unfoldable pub origins_of : Plan → ℕ → Number → Result Origin Refusal
origins_of p q n =
    judged (origin_lines p q n) Err (Ok (origin (sender_of (queue_at p q) last_tick n.0) (job_of (queue_at p q) last_tick n.0)))

-- "The window lookup takes a queue and a job of its receiver and answers the first and last number"
abbrev pub window_lines : Plan → ℕ → Job → List Line
window_lines p q m =
    queue_lines p q ++ (ltb last_tick (released (receiver_period (queue_at p q)) m.0) gives unnamed Rule.PastLastTick ∷ [])

-- the numbers a to b
abbrev pub window : ℕ → ℕ → Window
window a b = record { first = message a; last = message b }

unfoldable pub window_of : Plan → ℕ → Job → Result Window Refusal
window_of p q m = judged (window_lines p q m) Err (Ok (window (first (queue_at p q) m.0) (last (queue_at p q) m.0)))

-- The answers in document 01's numbers. The console has no line for them, so an answer that is no refusal has code 0 and its values:
-- the number,
abbrev pub numbered_says : Result Number Refusal → Said
numbered_says (Ok n) = (0, n.0 ∷ [])
numbered_says (Err r) = refused_says r

-- sender and job,
abbrev pub origins_says : Result Origin Refusal → Said
origins_says (Ok o) = (0, o.task ∷ o.job.0 ∷ [])
origins_says (Err r) = refused_says r

-- first and last number
abbrev pub window_says : Result Window Refusal → Said
window_says (Ok w) = (0, w.first.0 ∷ w.last.0 ∷ [])
window_says (Err r) = refused_says r
