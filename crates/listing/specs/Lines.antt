-- The lines that the program `table` writes: the console's frames of a plan's table, or a refusal with its place.
use Rattle.std.specs.Prelude.{◌+◌, ◌*◌, ◌^◌, ◌∷◌, ◌++◌}
use Rattle.common.specs.Words.{ℕ, zero, suc, min, Bool, cond, false, List, [], get_or}
use Rattle.plan.specs.Limits.{task_limit, queue_limit}
use Rattle.plan.specs.declared.Plan.{Plan}
use Rattle.digits.specs.Numbers.{in_bytes}
use Rattle.frames.specs.Answers.{line_of}
use Rattle.findings.specs.Findings.{number_of}
use Rattle.steps.specs.declared.faults.Fault.{Fault as Refusal}

-- "01: period (2 bytes), deadline (2)"; "Line 01 gets a sixth byte, priority"
unfoldable pub task_bytes : ℕ → ℕ → ℕ → List ℕ
task_bytes period deadline priority = in_bytes 1 0x01 ++ (in_bytes 2 period ++ (in_bytes 2 deadline ++ in_bytes 1 priority))

-- "02: receiver (1), sender mask (2, bit i for task i)"
unfoldable pub queue_bytes : ℕ → ℕ → List ℕ
queue_bytes receiver mask = in_bytes 1 0x02 ++ (in_bytes 1 receiver ++ in_bytes 2 mask)

-- of the first n tasks
unfoldable pub mask_of : (ℕ → Bool) → ℕ → ℕ
mask_of sends zero = 0
mask_of sends (suc n) = mask_of sends n + cond (sends n) (2 ^ n) 0

abbrev pub sender : List Bool → ℕ → ℕ → Bool
sender sends q i = get_or sends (q * task_limit + i) false

-- the lines of the first n threads, and of the first n queues
unfoldable pub each_task : List ℕ → List ℕ → List ℕ → ℕ → List ℕ
each_task period deadline priority zero = []
each_task period deadline priority (suc n) =
    each_task period deadline priority n ++ line_of (task_bytes (get_or period n 0) (get_or deadline n 0) (get_or priority n 0))

unfoldable pub each_queue : List ℕ → List Bool → ℕ → List ℕ
each_queue receiver sends zero = []
each_queue receiver sends (suc n) =
    each_queue receiver sends n ++ line_of (queue_bytes (get_or receiver n 0) (mask_of (sender sends n) task_limit))

-- "lines 01 for each thread, 02 for each queue, then 03"
unfoldable pub table_lines : Plan → List ℕ
table_lines p =
    each_task p.period p.deadline p.priority (min p.tasks task_limit)
    ++ (each_queue p.receiver p.sends (min p.queues queue_limit) ++ line_of (0x03 ∷ []))

-- "one line 7f, the number (1 byte), the place (4 bytes, high first)"
unfoldable pub unread_bytes : Refusal → List ℕ
unread_bytes r = in_bytes 1 0x7f ++ (in_bytes 1 (number_of r.rule) ++ in_bytes 4 r.place)

-- how many bytes each line has, and room for the lines of any table
abbrev pub task_line : ℕ
task_line = 13

abbrev pub queue_line : ℕ
queue_line = 9

abbrev pub lines_room : ℕ
lines_room = 288
