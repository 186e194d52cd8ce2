-- A number that an answer writes in so many bytes is the one that its line's digits say, where it fits them.
use Rattle.std.specs.Prelude.{◌+◌, ◌*◌, ◌/◌, ◌%◌, ◌^◌, ◌<◌, ◌∷◌, ◌++◌, ◌≡◌}
use Rattle.common.specs.Words.{ℕ, zero, suc, arith, true, List, [], refl, ◌∙◌, eqb, length, get_or, length-append, get_or-append, eqb-true}
use Rattle.common.specs.Words.{div-add-mod', mod-lt, get_or_at, ⊎_elim, eq-or-lt_of_le, le_of_suc-le-suc}
use Rattle.common.proofs.Rows.{every, every_at}
use Rattle.common.specs.Table.{table_at}
use Rattle.digits.specs.Hex.{digit, letter, byte_at, bytes_in, digits}
use Rattle.digits.specs.HexLaws.{bytes_count}
use Rattle.digits.specs.Numbers.{value_at, in_bytes}
use Rattle.digits.specs.NumberLaws.{bytes_length, value_back}
use Rattle.frames.specs.Answers.{line_of}
use Rattle.frames.specs.Writing.{line_length}
use Rattle.std.proofs.Common.{get_or-append-add}

-- ## One byte

-- a digit is read back: all sixteen, computed
letters : every (λ n. eqb (digit (letter n)) n) 16 ≡ true
unfolding every digit
letters = refl

letter_back : (n : ℕ) → n < 16 → digit (letter n) ≡ n
letter_back n h = eqb-true _ _ (every_at (λ n. eqb (digit (letter n)) n) 16 n letters h)

-- the two digits of byte k
pub digits_at : (bs : List ℕ) (k : ℕ) (c : List ℕ) → k < length bs →
    (get_or (digits bs ++ c) (2 * k) 0 ≡ letter (get_or bs k 0 / 16)) × (get_or (digits bs ++ c) (2 * k + 1) 0 ≡ letter (get_or bs k 0 % 16))
unfolding digits
digits_at [] k c h = absurd (omega arith)
digits_at (b ∷ bs) zero c h = (refl, refl)
digits_at (b ∷ bs) (suc k) c h =
    let e : 2 * suc k ≡ suc (suc (2 * k)) = omega arith in
    let d : suc (suc (2 * k)) + 1 ≡ suc (suc (2 * k + 1)) = omega arith in
    rw (e, d) (digits_at bs k c (omega arith))

byte_back : (bs : List ℕ) (k : ℕ) → k < length bs → get_or bs k 0 < 256 → byte_at (line_of bs) k ≡ get_or bs k 0
unfolding line_of
byte_back bs k h f =
    let d = digits_at bs k (10 ∷ []) h in
    let high : get_or bs k 0 / 16 < 16 = omega arith in
    let low : get_or bs k 0 % 16 < 16 = mod-lt (get_or bs k 0) (omega arith) in
    rw (d.0, d.1, letter_back _ high, letter_back _ low) (div-add-mod' (get_or bs k 0) 16)

line_half : (bs : List ℕ) → length (line_of bs) / 2 ≡ length bs
line_half bs = omega (arith, line_length bs)

pub bytes_half : (bs : List ℕ) → length (bytes_in (line_of bs)) ≡ length bs
bytes_half bs = bytes_count (line_of bs) ∙ line_half bs

said_at : (bs : List ℕ) (k : ℕ) → k < length bs → get_or bs k 0 < 256 → get_or (bytes_in (line_of bs)) k 0 ≡ get_or bs k 0
unfolding bytes_in
said_at bs k h f = table_at (byte_at (line_of bs)) (length (line_of bs) / 2) k 0 (omega (arith, line_half bs)) ∙ byte_back bs k h f

-- ## A number

small : (width n k : ℕ) → k < width → get_or (in_bytes width n) k 0 < 256
unfolding in_bytes
small zero n k h = absurd (omega arith)
small (suc width) n k h =
    let l : length (in_bytes width (n / 256)) ≡ width = bytes_length width (n / 256) in
    ⊎_elim (λ (e : k ≡ width). rw (e, get_or_at (in_bytes width (n / 256)) (n % 256) [] 0 width l) (mod-lt n (omega arith)))
    (λ (g : k < width). rw (get_or-append (in_bytes width (n / 256)) (n % 256 ∷ []) 0 k (omega arith)) (small width (n / 256) k g))
    (eq-or-lt_of_le (le_of_suc-le-suc h))

value_same : (xs ys : List ℕ) (at width : ℕ) → ((k : ℕ) → k < width → get_or xs (at + k) 0 ≡ get_or ys (0 + k) 0) →
    value_at xs at width ≡ value_at ys 0 width
unfolding value_at
value_same xs ys at zero h = refl
value_same xs ys at (suc width) h = rw (value_same xs ys at width (λ k l. h k (omega arith)), h width (omega arith))

-- a number behind some bytes, with any bytes behind it
pub field : (a c : List ℕ) (at width n : ℕ) → length a ≡ at → n < 256 ^ width →
    value_at (bytes_in (line_of (a ++ (in_bytes width n ++ c)))) at width ≡ n
field a c at width n e f = value_same _ (in_bytes width n) at width one ∙ value_back width n f
  where
    bs : List ℕ
    bs = a ++ (in_bytes width n ++ c)

    long : length bs ≡ at + (width + length c)
    long = rw (length-append a (in_bytes width n ++ c), length-append (in_bytes width n) c, bytes_length width n, e)

    stands : (k : ℕ) → k < width → get_or bs (at + k) 0 ≡ get_or (in_bytes width n) k 0
    stands k h =
        rw (← e) (get_or-append-add a (in_bytes width n ++ c) k 0 ∙ get_or-append (in_bytes width n) c 0 k (omega (arith, bytes_length width n)))

    one : (k : ℕ) → k < width → get_or (bytes_in (line_of bs)) (at + k) 0 ≡ get_or (in_bytes width n) (0 + k) 0
    one k h =
        let z : 0 + k ≡ k = omega arith in
        rw z (said_at bs (at + k) (omega (arith, long)) (rw (stands k h) (small width n k h)) ∙ stands k h)
