-- What the code keeps of a byte of the plain text: what the next one stands in, as an enum.
use Rattle.common.specs.Words.{ℕ, Bool, true, false}
use Rattle.plain.specs.declared.Inside.{Inside}
use Rattle.plain.specs.declared.Inside.TheVariants.{Comment, Rest}
use Rattle.plain.specs.declared.Seen.{Seen}
use Rattle.plain.specs.Plain.{Step, step}

-- whether it stands in a comment, and how many more belong to a string, an annex or the mark
abbrev pub comment_of : Inside → Bool
comment_of Comment = true
comment_of (Rest n) = false

abbrev pub left_of : Inside → ℕ
left_of Comment = 0
left_of (Rest n) = n

abbrev pub seen : Seen → Step
seen s = step s.byte (comment_of s.after) (left_of s.after)
