-- "Limits, written once and belonging to the plan". The code's constants are held to these by `limits_agree`.
use Rattle.std.specs.Prelude.{◌*◌, ◌+◌}
use Rattle.common.specs.Words.{ℕ}

abbrev pub task_limit : ℕ
task_limit = 16

abbrev pub queue_limit : ℕ
queue_limit = 8

-- the square of yes and no, kept flat
abbrev pub cell_limit : ℕ
cell_limit = queue_limit * task_limit

abbrev pub longest_period : ℕ
longest_period = 60000

abbrev pub longest_hyperperiod : ℕ
longest_hyperperiod = 10000000

abbrev pub most_messages : ℕ
most_messages = 4096

abbrev pub most_slots : ℕ
most_slots = 1024

abbrev pub last_tick : ℕ
last_tick = 1000000000000

abbrev pub payload_bytes : ℕ
payload_bytes = 24

-- "A slot is the message number as 8 bytes .., then the payload"
abbrev pub slot_bytes : ℕ
slot_bytes = 8 + payload_bytes
