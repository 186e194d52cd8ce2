-- Which lines of the table of refusals each running call tests, in document 01's order: "Running calls test 7, 8, 14, 9, 11, 10, 12, 13,
-- as far as each applies". The lines 11, 10, 12 and 13 are the crate timing's; they see two numbers of the state: `before`, its tick, and
-- `unsent`, the job after the last one that the task sent into the queue.
use Rattle.std.specs.Prelude.{◌+◌, ◌*◌, ◌/◌, ◌∷◌}
use Rattle.common.specs.Words.{ℕ, not, List, [], ltb, eqb, length, get_or}
use Rattle.model.specs.Model.{Queue, receiver_period, deadline_of, wanted_for}
use Rattle.plan.specs.Limits.{task_limit, payload_bytes, slot_bytes}
use Rattle.plan.specs.Plan.{queue_at, slots_of}
use Rattle.plan.specs.Refusals.{Line, ◌gives◌, unnamed}
use Rattle.plan.specs.Rules.{sound_plan, connected}
use Rattle.plan.specs.declared.Plan.{Plan}
use Rattle.plan.specs.declared.refusal.Rule.TheVariants.{UnsoundPlan, ShortMemory, NoSuchSender, PayloadLength}
use Rattle.timing.specs.Timing.{running_lines, wanting_lines}

-- 7 and 8, which every running call tests first
abbrev pub ground_lines : Plan → List ℕ → List Line → List Line
ground_lines p m lines =
    not (sound_plan p) gives unnamed UnsoundPlan ∷ ltb (length m) (slots_of p * slot_bytes) gives unnamed ShortMemory ∷ lines

-- a task's job that was released last at tick t, and the receiver's
abbrev pub running_job : Queue → ℕ → ℕ → ℕ
running_job q i t = t / q.period i

abbrev pub receiving_job : Queue → ℕ → ℕ
receiving_job q t = t / receiver_period q

abbrev pub running_deadline : Queue → ℕ → ℕ → ℕ
running_deadline q i t = deadline_of q i (running_job q i t)

-- of a state's column of jobs, the one of queue q and task i
abbrev pub unsent_at : List ℕ → ℕ → ℕ → ℕ
unsent_at sent q i = get_or sent (q * task_limit + i) 0

-- ## Start: 7, 8

abbrev pub start_lines : Plan → List ℕ → List Line
start_lines p m = ground_lines p m []

-- ## Send: 7, 8, 14, 9, 11, 10, 12, 13

abbrev pub send_lines : ℕ → ℕ → Plan → List ℕ → ℕ → ℕ → ℕ → List ℕ → List Line
send_lines before unsent p m q i t payload =
    ground_lines p m
    (not (eqb (length payload) payload_bytes) gives unnamed PayloadLength
    ∷ not (connected p q i) gives unnamed NoSuchSender
    ∷ running_lines before unsent ((queue_at p q).period i) ((queue_at p q).deadline i) t)

-- ## Receive: 7, 8, 9, 11, 10, 12

abbrev pub receive_lines : ℕ → Plan → List ℕ → ℕ → ℕ → List Line
receive_lines before p m q t =
    ground_lines p m
    (not (ltb q p.queues) gives unnamed NoSuchSender
    ∷ wanting_lines before (receiver_period (queue_at p q)) (wanted_for (queue_at p q)) t)
