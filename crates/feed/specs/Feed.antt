-- Feeding a block: the lines that end in it are answered one after another, until the block is used up or the room for answers is short.
use Rattle.std.specs.Prelude.{◌+◌, ◌-◌, ◌∷◌, ◌++◌, ◌≡◌}
use Rattle.common.specs.Words.{ℕ, cond, List, [], eqb, ltb, length}
use Rattle.frames.specs.Answers.{longest_answer}
use Rattle.lines.specs.Lines.{line_feed, cut, fed}
use Rattle.feed.specs.Answers.{Console, next, reply, console_after, answers_to}

-- room that every answer has; with less the block waits until the answers are out
abbrev pub enough : ℕ
enough = longest_answer

-- the console after, the line that has not ended, how many bytes of the block were used, and the answers
pub record Feeding : Type 0 where
  pub console : Console
  pub carry : List ℕ
  pub taken : ℕ
  pub answers : List ℕ

abbrev pub still : Console → List ℕ → Feeding
still w c = record { console = w; carry = c; taken = 0; answers = [] }

-- some bytes and answers before all that
abbrev pub onward : ℕ → List ℕ → Feeding → Feeding
onward k bytes f = record { console = f.console; carry = f.carry; taken = k + f.taken; answers = bytes ++ f.answers }

-- byte by byte. A line feed ends the line, which is the carry: it is answered, and where the room left is short the block waits.
unfoldable pub going : Console → List ℕ → List ℕ → ℕ → Feeding
going w c [] room = still w c
going w c (b ∷ bs) room =
    cond (eqb b line_feed)
    (onward 1 (reply w c)
    (cond (ltb (room - length (reply w c)) enough) (still (next w c) []) (going (next w c) [] bs (room - length (reply w c)))))
    (onward 1 [] (going w (cut (c ++ (b ∷ []))) bs room))

unfoldable pub feed_of : Console → List ℕ → List ℕ → ℕ → Feeding
feed_of w c t room = cond (ltb room enough) (still w c) (going w c t room)

-- from the console w and the carry c, the text x comes to this: its lines are answered one after another, and the rest of it is carried
pub record Answered (w : Console) (c x : List ℕ) (f : Feeding) : Type 0 where
  pub console : f.console ≡ console_after w (fed c x).lines
  pub answers : f.answers ≡ answers_to w (fed c x).lines
  pub carry : f.carry ≡ (fed c x).carry
