-- AADL.md, section 1: blanks, comments, strings and annexes. The plain text is what the rules see of a text, byte for byte as long as it
-- is: letters are small, a comment is blanks, a string is its first quote and blanks, an ANNEX is the letter A and blanks. No capital is
-- left that could be taken for that A; a quote that begins no string is to every rule what a string is.
-- What is long to reckon stands in a `let`, which is reckoned only where a test picks it.
use Rattle.std.specs.Prelude.{◌+◌, ◌&&◌, ◌∷◌}
use Rattle.common.specs.Words.{ℕ, zero, suc, Bool, true, false, cond, List, [], eqb, leb, get_or, drop}

-- "Words compare without regard to letter case"
unfoldable pub lower : ℕ → ℕ
lower b = cond (leb 0x41 b && leb b 0x5a) (b + 0x20) b

-- two bytes at the front, and three
unfoldable pub two : List ℕ → ℕ → ℕ → Bool
two bs a b = eqb (get_or bs 0 0) a && eqb (get_or bs 1 0) b

unfoldable pub three : List ℕ → ℕ → ℕ → ℕ → Bool
three bs a b c = two bs a b && eqb (get_or bs 2 0) c

-- "string: `"`, any bytes but `"` and LF (`""` stands for a quote), `"`", and "the longest token counts": how many bytes it has behind its
-- first quote, n of them passed; behind a doubled quote that no other one ends it has ended with the first of the two, z bytes; 0 where none
-- begins
unfoldable pub string_by : ℕ → ℕ → List ℕ → ℕ
string_by n z [] = z
string_by n z (b ∷ []) = cond (eqb b 0x22) (n + 1) z
string_by n z (b ∷ c ∷ bs) =
    let doubled = string_by (n + 2) (n + 1) bs in
    let more = string_by (n + 1) z (c ∷ bs) in
    cond (eqb b 0x0a) z (cond (eqb b 0x22) (cond (eqb c 0x22) doubled (n + 1)) more)

-- "up to and with the first `**}`": how many bytes that are, n of them passed; 0 where there is none
unfoldable pub close_by : ℕ → List ℕ → ℕ
close_by n [] = 0
close_by n (b ∷ bs) = let more = close_by (n + 1) bs in cond (three (b ∷ bs) 0x2a 0x2a 0x7d) (n + 3) more

-- "ANNEX: `{**`, then up to and with the first `**}` behind it": how many bytes it has behind its brace, 0 where none begins
unfoldable pub annex_rest : List ℕ → ℕ
annex_rest bs = let close = close_by 2 (drop 2 bs) in cond (two bs 0x2a 0x2a) close 0

-- a byte of the plain text; whether the next one stands in a comment, and how many more belong to a string, an annex or the mark
pub record Step : Type 0 where
  pub byte : ℕ
  pub comment : Bool
  pub left : ℕ

abbrev pub step : ℕ → Bool → ℕ → Step
step b c n = record { byte = b; comment = c; left = n }

-- "any other byte by itself, also a quote that begins no string, and the bytes of a `{**` that nothing closes"
abbrev pub brace : ℕ → ℕ
brace annexed = cond (eqb annexed 0) 0x7b 0x41

-- a byte outside of comments, strings and annexes, bs being what follows it
unfoldable pub begun : ℕ → List ℕ → Step
begun b bs =
    let quote = step 0x22 false (string_by 0 0 bs) in
    let annexed = annex_rest bs in
    let annex = step (brace annexed) false annexed in
    cond (two (b ∷ bs) 0x2d 0x2d) (step 0x20 true 0)
    (cond (eqb b 0x22) quote
    (cond (eqb b 0x7b) annex
    (step (lower b) false 0)))

-- "A comment runs from `--` to the line's end (LF) or the text's"
unfoldable pub step_of : Bool → ℕ → ℕ → List ℕ → Step
step_of comment (suc n) b bs = step 0x20 false n
step_of true zero b bs = cond (eqb b 0x0a) (step 0x0a false 0) (step 0x20 true 0)
step_of false zero b bs = begun b bs

unfoldable pub plain_by : Bool → ℕ → List ℕ → List ℕ
plain_by comment n [] = []
plain_by comment n (b ∷ bs) = let s = step_of comment n b bs in s.byte ∷ plain_by s.comment s.left bs

-- "the three bytes EF BB BF where the text begins with them" are blanks
unfoldable pub mark_rest : List ℕ → ℕ
mark_rest t = cond (three t 0xef 0xbb 0xbf) 3 0

unfoldable pub plain_of : List ℕ → List ℕ
plain_of t = plain_by false (mark_rest t) t
