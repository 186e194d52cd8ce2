-- What is known of a stream after a block was read, and after answers were written. What was read or written no contract can say.
use Rattle.std.specs.Prelude.{ℕ, ◌+◌, ◌<◌, ◌≤◌, Bool, true, ◌≡◌, Option, Some, None, Ok, Err, is_ok}
use Rattle.blocks.specs.declared.Stream.{Stream}

-- the most that a u64 holds: at a block in a nanosecond it lasts for 584 years
abbrev pub most_blocks : ℕ
most_blocks = 18446744073709551615

abbrev pub is_open : Stream → Bool
is_open s = is_ok s.left

-- how many blocks may still come, or could when it closed
abbrev pub blocks_left : Stream → ℕ
blocks_left s = elim s.left [ Ok n ↦ n | Err n ↦ n ]

abbrev pub closed : Stream → Stream
closed s = record { left = Err (blocks_left s) }

-- a block of so many bytes, in so much room
pub record Block (s : Stream) (room bytes : ℕ) (r : Stream) : Type 0 where
  pub some : 0 < bytes
  pub fits : bytes ≤ room
  pub was_open : is_open s ≡ true
  pub goes_on : is_open r ≡ true
  pub fewer : blocks_left r + 1 ≡ blocks_left s

-- a read into so much room: where none came the stream is closed, with as many left, and else a block less is left
abbrev pub Came : Stream → ℕ → Option ℕ → Stream → Type 0
Came s room None r = r ≡ closed s
Came s room (Some bytes) r = Block s room bytes r

-- a write: it may close a stream, opens none, and takes no block
pub record Gone (s r : Stream) : Type 0 where
  pub same_left : blocks_left r ≡ blocks_left s
  pub was_open : is_open r ≡ true → is_open s ≡ true
