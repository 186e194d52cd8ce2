-- What answering a block comes to: the desk, the memory and the carry are those of the lines of the bytes that were used, one after
-- another, and where every answer could be written no byte of the block is left. Leans on feed's answers to lines.
use Rattle.std.specs.Prelude.{◌<◌, ◌≤◌, ◌≡◌}
use Rattle.common.specs.Words.{ℕ, true, List, [], length, take}
use Rattle.blocks.specs.declared.Stream.{Stream}
use Rattle.blocks.specs.Stream.{is_open}
use Rattle.feed.specs.Answers.{Console, console_after}
use Rattle.lines.specs.Lines.{fed, ended}

-- from the console w and the carry c, the text x comes to this console and this carry
pub record Comes (w : Console) (c x : List ℕ) (w' : Console) (carry : List ℕ) : Type 0 where
  pub console : w' ≡ console_after w (fed c x).lines
  pub carried : carry ≡ (fed c x).carry

-- a block from the console w and the carry c on: where it stopped, the console and the carry after it, and the stream
pub record BlockGives (w : Console) (c piece : List ℕ) (at : ℕ) (w' : Console) (carry : List ℕ) (s : Stream) : Type 0 where
  pub inside : at ≤ length piece
  pub comes : Comes w c (take at piece) w' carry
  pub whole : is_open s ≡ true → at ≡ length piece
  pub moves : 0 < length piece → 0 < at

-- the end of the input: a last line without its end is taken as a line, and nothing of it is left
pub record LastGives (w : Console) (c : List ℕ) (w' : Console) (carry : List ℕ) : Type 0 where
  pub console : w' ≡ console_after w (ended c)
  pub nothing_left : carry ≡ []
