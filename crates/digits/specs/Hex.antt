-- "The program reads lines of lower-case hexadecimal": which lines hold bytes, the bytes that they hold, and bytes as digits.
-- A line is any list of bytes, without its line feed.
use Rattle.std.specs.Prelude.{◌+◌, ◌-◌, ◌*◌, ◌/◌, ◌%◌, ◌&&◌, ◌∷◌, Option, None, Some}
use Rattle.common.specs.Words.{ℕ, Bool, cond, List, [], leb, ltb, eqb, length, get_or, sets}
use Rattle.common.proofs.Rows.{every}
use Rattle.common.specs.Table.{table}

-- a lower-case digit's value; for any other byte 16, which no digit has
abbrev pub no_digit : ℕ
no_digit = 16

unfoldable pub digit : ℕ → ℕ
digit c =
    cond (ltb c 0x30) no_digit
    (cond (leb c 0x39) (c - 0x30)
    (cond (ltb c 0x61) no_digit
    (cond (leb c 0x66) (c - 0x61 + 10)
    no_digit)))

abbrev pub digit_at : List ℕ → ℕ → Bool
digit_at line i = ltb (digit (get_or line i 0)) no_digit

-- "over 100 digits" is no frame, and neither is a byte cut in two
abbrev pub longest_line : ℕ
longest_line = 100

abbrev pub most_bytes : ℕ
most_bytes = 50

abbrev pub even_line : List ℕ → Bool
even_line line = leb (length line) longest_line && eqb (length line % 2) 0

-- the line holds bytes
unfoldable pub is_line : List ℕ → Bool
is_line line = even_line line && every (digit_at line) (length line)

abbrev pub byte_at : List ℕ → ℕ → ℕ
byte_at line k = digit (get_or line (2 * k) 0) * 16 + digit (get_or line (2 * k + 1) 0)

unfoldable pub bytes_in : List ℕ → List ℕ
bytes_in line = table (byte_at line) (length line / 2)

-- ## Decoding a line into a buffer

-- how many bytes the line holds, where it holds bytes
unfoldable pub decoded_of : List ℕ → Option ℕ
decoded_of line = cond (is_line line) (Some (length line / 2)) None

abbrev pub pair_at : List ℕ → ℕ → Bool
pair_at line k = digit_at line (2 * k) && digit_at line (2 * k + 1)

-- what a pair leaves in the buffer: its byte; where it is not two digits, as much of that number as fits
abbrev pub stored_at : List ℕ → ℕ → ℕ
stored_at line k = byte_at line k % 256

unfoldable pub decoded_into : List ℕ → List ℕ → List ℕ
decoded_into line buffer = cond (even_line line) (sets buffer 0 (table (stored_at line) (length line / 2))) buffer

-- ## Bytes as digits

-- the digit of a value below 16
abbrev pub letter : ℕ → ℕ
letter n = cond (ltb n 10) (n + 0x30) (n - 10 + 0x61)

unfoldable pub digits : List ℕ → List ℕ
digits [] = []
digits (b ∷ bs) = letter (b / 16) ∷ letter (b % 16) ∷ digits bs
