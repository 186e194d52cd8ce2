-- Whether a tick suits the state and the running job: the lines 11, 10, 12 and 13 of the table of refusals, of a sender and of a receiver.
-- Of the state they see two numbers: `before`, its tick, and `unsent`, the job after the last one that the task sent into the queue.
use Rattle.std.specs.Prelude.{◌/◌, ◌||◌, ◌∷◌}
use Rattle.common.specs.Words.{ℕ, Bool, List, [], leb, ltb}
use Rattle.model.specs.Model.{due}
use Rattle.plan.specs.Limits.{last_tick}
use Rattle.plan.specs.Refusals.{Line, ◌gives◌, unnamed}
use Rattle.plan.specs.declared.refusal.Rule.TheVariants.{TickBeforeState, PastLastTick, JobOver, SentAlready}

-- the tick that lies so many ticks after the release of a job that was released last at tick t, of a task with period P
abbrev pub ending : ℕ → ℕ → ℕ → ℕ
ending P span t = due P span (t / P)

-- "a recorded send of this job or a later one counts as sent"
abbrev pub sent_already : ℕ → ℕ → Bool
sent_already unsent k = ltb k unsent

-- 11, 10, 12, 13, of a sender with period P and deadline D
abbrev pub running_lines : ℕ → ℕ → ℕ → ℕ → ℕ → List Line
running_lines before unsent P D t =
    (ltb last_tick t || ltb last_tick (ending P D t)) gives unnamed PastLastTick
    ∷ ltb t before gives unnamed TickBeforeState
    ∷ leb (ending P D t) t gives unnamed JobOver
    ∷ sent_already unsent (t / P) gives unnamed SentAlready
    ∷ []

-- 11, 10, 12, of a receiver with period P, whose job wants its messages for so many ticks
abbrev pub wanting_lines : ℕ → ℕ → ℕ → ℕ → List Line
wanting_lines before P wanted t =
    ltb last_tick t gives unnamed PastLastTick
    ∷ ltb t before gives unnamed TickBeforeState
    ∷ leb (ending P wanted t) t gives unnamed JobOver
    ∷ []
