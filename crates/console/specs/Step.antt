-- A step of the console: the turn of a line, where there is room for its answer.
use Rattle.std.specs.Prelude.{◌≡◌, Option, None, Some}
use Rattle.common.specs.Words.{ℕ, cond, List, ltb, length, sets}
use Rattle.frames.specs.Answers.{longest_answer}
use Rattle.desk.specs.Desk.{Turn, silent, line_turn}
use Rattle.console.specs.Types.{Desk, Replied}

-- nothing is done where the buffer for the answer is too short
unfoldable pub step_of : Desk → List ℕ → List ℕ → List ℕ → Turn
step_of d m line out = cond (ltb (length out) longest_answer) (silent d m) (line_turn d m line)

-- what a step hands back, and what it leaves in the memory and in the buffer
abbrev pub reply_of : List ℕ → Turn → Option ℕ
reply_of out t = cond (ltb (length out) longest_answer) None (Some (length t.answer))

abbrev pub StepGives : Desk → List ℕ → List ℕ → List ℕ → Replied → List ℕ → List ℕ → Type 0
StepGives d m line out r memory out' =
    let t = step_of d m line out in
    (r ≡ record { desk = t.desk; reply = reply_of out t }) × (memory ≡ t.memory) × (out' ≡ sets out 0 t.answer)
