-- Lines of a text that comes in blocks. Document 01: "reads lines of lower-case hexadecimal from standard input, one frame a line";
-- "A last line without its end counts as a line". Any byte but the line feed belongs to a line.
use Rattle.std.specs.Prelude.{◌∷◌, ◌++◌}
use Rattle.common.specs.Words.{ℕ, cond, List, [], eqb, length, take}

abbrev pub line_feed : ℕ
line_feed = 10

-- "over 100 digits" is answered in one way, so of a line 101 bytes are enough: the last of them says that it was longer
abbrev pub carry_limit : ℕ
carry_limit = 101

unfoldable pub cut : List ℕ → List ℕ
cut l = take carry_limit l

-- what a text leaves: the carry, which is the line that has not ended, and the lines that ended in it
pub record Fed : Type 0 where
  pub carry : List ℕ
  pub lines : List (List ℕ)

abbrev pub lines_before : List (List ℕ) → Fed → Fed
lines_before ls f = record { carry = f.carry; lines = ls ++ f.lines }

-- the first line that ends in the text was begun by the carry
unfoldable pub fed : List ℕ → List ℕ → Fed
fed c [] = record { carry = c; lines = [] }
fed c (b ∷ bs) = cond (eqb b line_feed) (lines_before (c ∷ []) (fed [] bs)) (fed (cut (c ++ (b ∷ []))) bs)

-- at the end of the input: a last line without its end, where at least one byte of it came
abbrev pub ended : List ℕ → List (List ℕ)
ended [] = []
ended (b ∷ bs) = (b ∷ bs) ∷ []

-- ## A text in blocks

-- one block after another
unfoldable pub fed_all : List ℕ → List (List ℕ) → Fed
fed_all c [] = record { carry = c; lines = [] }
fed_all c (x ∷ xs) = lines_before (fed c x).lines (fed_all (fed c x).carry xs)

-- the text that the blocks are a division of
unfoldable pub joined : List (List ℕ) → List ℕ
joined [] = []
joined (x ∷ xs) = x ++ joined xs

-- ## A whole text

-- the carry goes before the first piece
abbrev pub begun : List ℕ → List (List ℕ) → List (List ℕ)
begun c [] = c ∷ []
begun c (p ∷ ps) = (c ++ p) ∷ ps

-- the pieces between the line feeds, one more than there are line feeds
unfoldable pub pieces : List ℕ → List (List ℕ)
pieces [] = [] ∷ []
pieces (b ∷ bs) = cond (eqb b line_feed) ([] ∷ pieces bs) (begun (b ∷ []) (pieces bs))

-- each piece is a line, but for an empty last one: a text that ends with a line feed has no further line, and an empty text has none
unfoldable pub counted : List (List ℕ) → List (List ℕ)
counted [] = []
counted (p ∷ []) = cond (eqb (length p) 0) [] (p ∷ [])
counted (p ∷ q ∷ qs) = p ∷ counted (q ∷ qs)

unfoldable pub lines_of : List ℕ → List (List ℕ)
lines_of t = counted (pieces t)
