-- The frames that the console reads, "one frame a line, numbers high byte first". A frame is known by its first byte and its length.
use Rattle.std.specs.Prelude.{◌+◌, ◌||◌, ◌≡◌}
use Rattle.common.specs.Words.{ℕ, Bool, cond, List, ltb, eqb, length, get_or, drop}
use Rattle.std.specs.Borrow.{Bor}
use Rattle.calendar.specs.Calendar.{tick}
use Rattle.digits.specs.Numbers.{value_at}
use Rattle.frames.specs.declared.frame.Frame.{Frame}

abbrev pub of_size : ℕ → List ℕ → Frame → Frame
of_size size bytes frame = cond (eqb (length bytes) size) frame Frame.Bad

-- "01: period (2 bytes), deadline (2)", and by request b "a sixth byte, priority"; "A line of five bytes has priority 0"
abbrev pub task_length : ℕ → Bool
task_length bytes = eqb bytes 5 || eqb bytes 6

abbrev pub task_in : List ℕ → Frame
task_in bytes = cond (task_length (length bytes)) (Frame.Task (value_at bytes 1 2) (value_at bytes 3 2) (get_or bytes 5 0)) Frame.Bad

-- "02: receiver (1), sender mask (2, bit i for task i)"
abbrev pub queue_in : List ℕ → Frame
queue_in bytes = of_size 4 bytes (Frame.Queue (value_at bytes 1 1) (value_at bytes 2 2))

-- "03: plan and start"
abbrev pub go_in : List ℕ → Frame
go_in bytes = of_size 1 bytes Frame.Go

-- "04: queue, task, tick (5), payload", which "may be of any whole bytes"
abbrev pub send_in : List ℕ → Frame
send_in bytes = cond (ltb (length bytes) 8) Frame.Bad (Frame.Send (value_at bytes 1 1) (value_at bytes 2 1) (tick (value_at bytes 3 5)))

unfoldable pub payload_in : List ℕ → List ℕ
payload_in bytes = drop 8 bytes

-- the payload, and where it lies: in the frame itself, at its start where the frame has none
abbrev pub PayloadGives : Bor (List ℕ) → Bor (List ℕ) → Type 0
PayloadGives bytes r =
    (r.now ≡ payload_in bytes.now) × (r.ref_ptr ≡ cond (ltb (length bytes.now) 8) bytes.ref_ptr (bytes.ref_ptr.0, 8 + bytes.ref_ptr.1))

-- "05: queue, tick (5)"
abbrev pub receive_in : List ℕ → Frame
receive_in bytes = of_size 7 bytes (Frame.Receive (value_at bytes 1 1) (tick (value_at bytes 2 5)))

abbrev pub by_kind : ℕ → List ℕ → Frame
by_kind kind bytes =
    cond (eqb kind 0x01) (task_in bytes)
    (cond (eqb kind 0x02) (queue_in bytes)
    (cond (eqb kind 0x03) (go_in bytes)
    (cond (eqb kind 0x04) (send_in bytes)
    (cond (eqb kind 0x05) (receive_in bytes)
    Frame.Bad))))

unfoldable pub frame_of : List ℕ → Frame
frame_of bytes = cond (eqb (length bytes) 0) Frame.Bad (by_kind (get_or bytes 0 0) bytes)
