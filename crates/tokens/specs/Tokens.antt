-- AADL.md, section 1: the tokens of a plain text. "At each place the longest token counts".
use Rattle.std.specs.Prelude.{◌+◌, ◌%◌, ◌&&◌, ◌∷◌}
use Rattle.common.specs.Words.{ℕ, zero, suc, Bool, true, false, cond, List, [], eqb, ltb, leb, length, take, drop, get_or}
use Rattle.tokens.specs.declared.Sort.{Sort}
use Rattle.tokens.specs.declared.Shape.{Shape}
use Rattle.words.specs.declared.kinds.Kind.{Kind}
use Rattle.words.specs.Words.{kind_of}
use Rattle.words.specs.Kinds.{ENDED, NUMBER, BECOMES, ADDS, ARROW, DELAYING, BOTH_WAYS, SCOPE, DOTS}

-- a token: its kind, its place, "the number of bytes before a token's first byte", and its own bytes
pub record Token : Type 0 where
  pub kind : Kind
  pub start : ℕ
  pub letters : List ℕ

abbrev pub token : Kind → ℕ → List ℕ → Token
token k s l = record { kind = k; start = s; letters = l }

-- the sorts of bytes, so numbered that each run of bytes is of the sorts from one to another
abbrev pub blank : ℕ
blank = 0

abbrev pub sign : ℕ
sign = 1

abbrev pub letter : ℕ
letter = 2

abbrev pub underscore : ℕ
underscore = 3

abbrev pub digit : ℕ
digit = 4

-- the sorts as the code names them
abbrev pub rank : Sort → ℕ
rank Sort.Blank = blank
rank Sort.Sign = sign
rank Sort.Letter = letter
rank Sort.Underscore = underscore
rank Sort.Digit = digit

-- "Blanks are space, tab, LF, VT, FF and CR"
unfoldable pub sort_of : ℕ → ℕ
sort_of b =
    cond (ltb b 0x09) sign
    (cond (ltb b 0x0e) blank
    (cond (eqb b 0x20) blank
    (cond (ltb b 0x30) sign
    (cond (ltb b 0x3a) digit
    (cond (eqb b 0x5f) underscore
    (cond (ltb b 0x61) sign
    (cond (ltb b 0x7b) letter sign)))))))

-- a byte that can stand in a name: a letter, a digit or an underscore
abbrev pub in_name : ℕ → Bool
in_name b = leb letter (sort_of b) && leb (sort_of b) digit

-- how many bytes at the front are of the sorts from low to high
unfoldable pub run : ℕ → ℕ → List ℕ → ℕ
run low high [] = 0
run low high (b ∷ bs) = let more = suc (run low high bs) in cond (leb low (sort_of b) && leb (sort_of b) high) more 0

-- a token's kind, and how many bytes it has
abbrev pub shape : Kind → ℕ → Shape
shape k w = record { kind = k; width = w }

-- "word: a letter (ASCII), then letters, digits and underscores"
unfoldable pub word_shape : List ℕ → Shape
word_shape bs = shape (kind_of (take (run letter digit bs) bs)) (run letter digit bs)

-- "NUMBER: a digit, then digits and underscores; then, where a point and a digit follow, the point and digits and underscores"
unfoldable pub number_width : List ℕ → ℕ
number_width bs =
    let n = run underscore digit bs in
    cond (eqb (get_or bs n 0) 0x2e && eqb (sort_of (get_or bs (n + 1) 0)) digit) (n + 1 + run underscore digit (drop (n + 1) bs)) n

-- the longer sign, where its other bytes follow; "any other byte by itself": its own kind (a byte is below 256)
abbrev pub one_of : Bool → Kind → ℕ → ℕ → Shape
one_of follow kind width byte = cond follow (shape kind width) (shape (Kind.Sign (byte % 256)) 1)

-- "`=>` `+=>` `->` `->>` `<->` `::` `..`", by the first bytes
unfoldable pub sign_shape : ℕ → ℕ → ℕ → Shape
sign_shape a b c =
    cond (eqb a 0x3d) (one_of (eqb b 0x3e) BECOMES 2 a)
    (cond (eqb a 0x2b) (one_of (eqb b 0x3d && eqb c 0x3e) ADDS 3 a)
    (cond (eqb a 0x2d) (cond (eqb b 0x3e && eqb c 0x3e) (shape DELAYING 3) (one_of (eqb b 0x3e) ARROW 2 a))
    (cond (eqb a 0x3c) (one_of (eqb b 0x2d && eqb c 0x3e) BOTH_WAYS 3 a)
    (cond (eqb a 0x3a) (one_of (eqb b 0x3a) SCOPE 2 a)
    (one_of (eqb a 0x2e && eqb b 0x2e) DOTS 2 a)))))

-- the token that begins at the front
unfoldable pub shape_of : List ℕ → Shape
shape_of bs =
    let word = word_shape bs in
    cond (eqb (sort_of (get_or bs 0 0)) letter) word
    (cond (eqb (sort_of (get_or bs 0 0)) digit) (shape NUMBER (number_width bs))
    (sign_shape (get_or bs 0 0) (get_or bs 1 0) (get_or bs 2 0)))

abbrev pub none : {A : Type 0} → List A → Bool
none [] = true
none (x ∷ xs) = false

-- the tokens from place i on, where the bytes bs stand, n at most; the last is the text's end
unfoldable pub tokens_by : ℕ → ℕ → List ℕ → List Token
tokens_by zero i bs = []
tokens_by (suc n) i bs =
    let g = run blank blank bs in
    let rest = drop g bs in
    let s = shape_of rest in
    let last = token ENDED (i + g) [] ∷ [] in
    let more = token s.kind (i + g) (take s.width rest) ∷ tokens_by n (i + g + s.width) (drop s.width rest) in
    cond (none rest) last more

-- the tokens of a plain text from a place on
unfoldable pub from : List ℕ → ℕ → List Token
from p i = tokens_by (suc (length p)) i (drop i p)

abbrev pub tokens : List ℕ → List Token
tokens p = from p 0
