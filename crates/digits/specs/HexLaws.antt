-- Laws of digits: a line of whole pairs, the buffer after decoding, and how many digits bytes take.
use Rattle.std.specs.Prelude.{bit_or, ◌+◌, ◌*◌, ◌/◌, ◌%◌, ◌^◌, ◌<◌, ◌≤◌, ◌&&◌, ◌∷◌, ◌++◌, ◌⊎◌}
use Rattle.std.specs.Prelude.{◌≡◌, Option, None, Some}
use Rattle.common.specs.Words.{ℕ, zero, suc, arith, add-one, Bool, true, false, cond, List, [], inl, inr, refl, sym, ap, subst, ◌∙◌, leb, ltb}
use Rattle.common.specs.Words.{length, get_or, take, set, sets, length-sets, length-take-le, take-suc, lt-ltb, le-ltb, le-leb, lt-leb, eq-eqb, ne_eqb}
use Rattle.common.specs.Words.{ltb-true, leb-true, eqb-true}
use Rattle.std.proofs.lemmas.Nat.{or_lt, and_le_l, and_le_r}
use Rattle.std.specs.Int.Bits.{or_add_and}
use Rattle.common.specs.Tests.{lt_or_le, having, and_left, and_right}
use Rattle.common.proofs.Rows.{every, every_none, every_at}
use Rattle.common.specs.Table.{table, table_length}
use Rattle.common.specs.Stores.{sets_append, part_same}
use Rattle.digits.specs.Hex.{no_digit, digit, digit_at, longest_line, most_bytes, even_line, is_line, byte_at, bytes_in, pair_at, stored_at}
use Rattle.digits.specs.Hex.{decoded_of, decoded_into, digits}

-- ## A line's pairs

and_assoc : (a b c : Bool) → ((a && b) && c) ≡ (a && (b && c))
and_assoc true b c = refl
and_assoc false b c = refl

every_two : (t : ℕ → Bool) (n : ℕ) → every t (suc (suc n)) ≡ (every t n && t n) && t (suc n)
unfolding every
every_two t n = refl

every_one : (t : ℕ → Bool) (n : ℕ) → every t (suc n) ≡ (every t n && t n)
unfolding every
every_one t n = refl

-- all digits are digits exactly when all pairs are pairs of digits
pub pairs_are : (line : List ℕ) (n : ℕ) → every (digit_at line) (2 * n) ≡ every (pair_at line) n
unfolding every
pairs_are line zero = refl
pairs_are line (suc n) =
    let e : 2 * suc n ≡ suc (suc (2 * n)) = omega arith in
    rw (e, every_two (digit_at line) (2 * n), every_one (pair_at line) n, add-one (2 * n), ← pairs_are line n)
    (and_assoc (every (digit_at line) (2 * n)) (digit_at line (2 * n)) (digit_at line (suc (2 * n))))

pub halves : (line : List ℕ) → length line % 2 ≡ 0 → 2 * (length line / 2) ≡ length line
halves line e = omega arith

-- a line of even length at most 100 holds bytes exactly when its pairs are pairs of digits
pub line_by_pairs :
    (line : List ℕ) → length line ≤ longest_line → length line % 2 ≡ 0 → is_line line ≡ every (pair_at line) (length line / 2)
unfolding is_line
line_by_pairs line l e =
    rw (le-leb (length line) longest_line l, eq-eqb (length line % 2) 0 e)
    (ap (every (digit_at line)) (sym (halves line e)) ∙ pairs_are line (length line / 2))

-- ## A digit's value by two wrapped differences, as the code reckons it: from '0', and from 'a'

pub digit_decimal : (c d : ℕ) → (d + 0x30) % 2 ^ 8 ≡ c → d < 10 → d ≡ digit c
unfolding digit
digit_decimal c d e h = rw (le-ltb c 0x30 (omega arith), le-leb c 0x39 (omega arith)) (omega arith)

pub digit_letter : (c l : ℕ) → (l + 0x61) % 2 ^ 8 ≡ c → l < 6 → l + 10 ≡ digit c
unfolding digit
digit_letter c l e h =
    rw (le-ltb c 0x30 (omega arith), lt-leb c 0x39 (omega arith), le-ltb c 0x61 (omega arith), le-leb c 0x66 (omega arith)) (omega arith)

pub digit_none :
    (c d l : ℕ) → (d + 0x30) % 2 ^ 8 ≡ c → (l + 0x61) % 2 ^ 8 ≡ c → 10 ≤ d → d < 2 ^ 8 → 6 ≤ l → l < 2 ^ 8 →
    no_digit ≡ digit c
unfolding digit
digit_none c d l e f g h i j = go (lt_or_le c 0x30) (lt_or_le c 0x61)
  where
    go : (c < 0x30) ⊎ (0x30 ≤ c) → (c < 0x61) ⊎ (0x61 ≤ c) → no_digit ≡ digit c
    go (inl x) y = rw (lt-ltb c 0x30 x)
    go (inr x) (inl y) = rw (le-ltb c 0x30 x, lt-leb c 0x39 (omega arith), lt-ltb c 0x61 y)
    go (inr x) (inr y) = rw (le-ltb c 0x30 x, lt-leb c 0x39 (omega arith), le-ltb c 0x61 y, lt-leb c 0x66 (omega arith))

-- ## One byte more in the buffer, and one byte more as digits

pub sets_table : (f : ℕ → ℕ) (l : List ℕ) (k : ℕ) → set (sets l 0 (table f k)) k (f k) ≡ sets l 0 (table f (k + 1))
unfolding table
sets_table f l k =
    let z : 0 + k ≡ k = omega arith in
    rw (add-one k, sets_append (table f k) (f k ∷ []) l 0, table_length f k, z)

pub digits_append : (a b : List ℕ) → digits (a ++ b) ≡ digits a ++ digits b
unfolding digits
digits_append [] b = refl
digits_append (x ∷ a) b = rw (digits_append a b)

pub digits_length : (a : List ℕ) → length (digits a) ≡ 2 * length a
unfolding digits
digits_length [] = refl
digits_length (x ∷ a) = omega (arith, digits_length a)

-- a turn of the loop that writes the digits of bytes: one byte more
pub digits_more :
    (bytes l : List ℕ) (at k : ℕ) → k < length bytes →
    sets (sets l at (digits (take k bytes))) (at + 2 * k) (digits (get_or bytes k 0 ∷ [])) ≡ sets l at (digits (take (k + 1) bytes))
digits_more bytes l at k h =
    let front = take k bytes in
    let byte = get_or bytes k 0 ∷ [] in
    let e : length (digits front) ≡ 2 * k = digits_length front ∙ ap (λ (n : ℕ). 2 * n) (length-take-le k bytes (omega arith)) in
    rw (add-one k, take-suc bytes k 0 h, digits_append front byte, sets_append (digits front) (digits byte) l at, e)

-- ## Decoding

-- two values have no bit beyond the low four where neither has one
below_both : (a b : ℕ) → ltb (bit_or a b) no_digit ≡ (ltb a no_digit && ltb b no_digit)
below_both a b = go (lt_or_le a no_digit) (lt_or_le b no_digit)
  where
    go : (a < no_digit) ⊎ (no_digit ≤ a) → (b < no_digit) ⊎ (no_digit ≤ b) →
        ltb (bit_or a b) no_digit ≡ (ltb a no_digit && ltb b no_digit)
    go (inl h) (inl g) = rw (lt-ltb a no_digit h, lt-ltb b no_digit g, lt-ltb (bit_or a b) no_digit (or_lt 4 a b h g))
    go (inl h) (inr g) =
        rw (lt-ltb a no_digit h, le-ltb b no_digit g, le-ltb (bit_or a b) no_digit (omega (arith, or_add_and a b, and_le_l a b)))
    go (inr h) g = rw (le-ltb a no_digit h, le-ltb (bit_or a b) no_digit (omega (arith, or_add_and a b, and_le_r a b)))

module _ (line : List ℕ) where
  -- what the loop that decodes has after k pairs: the buffer holds what they leave, and the bits of all their values tell whether all
  -- of them are digits
  pub Passed : List ℕ → ℕ → List ℕ → ℕ → Type 0
  Passed buffer k bytes bits = (bytes ≡ sets buffer 0 (table (stored_at line) k)) × (ltb bits no_digit ≡ every (pair_at line) k)

  pub passed_none : (buffer : List ℕ) → Passed buffer 0 buffer 0
  unfolding Passed table
  passed_none buffer = (refl, sym (every_none (pair_at line)))

  module _ (buffer bytes : List ℕ) (k bits : ℕ) (p : Passed buffer k bytes bits) where
    pub passed_more :
        (high low byte : ℕ) → high ≡ digit (get_or line (2 * k) 0) → low ≡ digit (get_or line (2 * k + 1) 0) →
        byte ≡ (high * 16 + low) % 256 →
        Passed buffer (k + 1) (set bytes k byte) (bit_or bits (bit_or high low))
    unfolding Passed every
    passed_more high low byte eh el eb = (
      rw (p.0, eb, eh, el) (sets_table (stored_at line) buffer k),
      rw (add-one k, below_both bits (bit_or high low), below_both high low, p.1, eh, el, every_one (pair_at line) k),
    )

    -- the same where the two digits' bits are added one after the other
    pub passed_each :
        (high low byte : ℕ) → high ≡ digit (get_or line (2 * k) 0) → low ≡ digit (get_or line (2 * k + 1) 0) →
        byte ≡ (high * 16 + low) % 256 →
        Passed buffer (k + 1) (set bytes k byte) (bit_or (bit_or bits high) low)
    unfolding Passed every
    passed_each high low byte eh el eb = (
      rw (p.0, eb, eh, el) (sets_table (stored_at line) buffer k),
      rw (add-one k, below_both (bit_or bits high) low, below_both bits high, p.1, eh, el) (and_assoc (every (pair_at line) k) _ _),
    )

    pub passed_all : (n : ℕ) → k ≡ n → (ltb bits no_digit ≡ every (pair_at line) n) × (bytes ≡ sets buffer 0 (table (stored_at line) n))
    unfolding Passed
    passed_all n e = (rw e at p.1, rw e at p.0)

-- a pair of digits leaves its byte
stored_byte : (line : List ℕ) (k : ℕ) → pair_at line k ≡ true → stored_at line k ≡ byte_at line k
stored_byte line k h =
    let a = ltb-true (digit (get_or line (2 * k) 0)) no_digit (and_left (digit_at line (2 * k)) _ h) in
    let b = ltb-true (digit (get_or line (2 * k + 1) 0)) no_digit (and_right (digit_at line (2 * k)) _ h) in
    omega (arith, a, b)

table_same : (f g : ℕ → ℕ) (n : ℕ) → ((i : ℕ) → i < n → f i ≡ g i) → table f n ≡ table g n
unfolding table
table_same f g zero h = refl
table_same f g (suc n) h = rw (table_same f g n (λ i l. h i (omega arith)), h n (omega arith))

module _ (line buffer : List ℕ) where
  -- what decoding comes to, line by line of the code
  abbrev Gives : Option ℕ → List ℕ → Type 0
  Gives x bytes = (x ≡ decoded_of line) × (bytes ≡ decoded_into line buffer)

  pub decoded_long : longest_line < length line → Gives None buffer
  unfolding decoded_of decoded_into is_line
  decoded_long h = let e = lt-leb (length line) longest_line h in (rw e, rw e)

  pub decoded_odd : length line ≤ longest_line → (length line % 2 ≡ 0 → ⊥) → Gives None buffer
  unfolding decoded_of decoded_into is_line
  decoded_odd l h =
      let e = le-leb (length line) longest_line l in
      let o = ne_eqb (length line % 2) 0 h in
      (rw (e, o), rw (e, o))

  module _ (fits : length line ≤ longest_line) (even : length line % 2 ≡ 0) where
    into : decoded_into line buffer ≡ sets buffer 0 (table (stored_at line) (length line / 2))
    unfolding decoded_into
    into = rw (le-leb (length line) longest_line fits, eq-eqb (length line % 2) 0 even)

    -- the pairs were decoded, and all of them are digits or not
    module _ (bytes : List ℕ) (is : bytes ≡ sets buffer 0 (table (stored_at line) (length line / 2))) where
      pub decoded_bytes : every (pair_at line) (length line / 2) ≡ true → Gives (Some (length line / 2)) bytes
      unfolding decoded_of
      decoded_bytes h = (rw (line_by_pairs line fits even, h), is ∙ sym into)

      pub decoded_bad : every (pair_at line) (length line / 2) ≡ false → Gives None bytes
      unfolding decoded_of
      decoded_bad h = (rw (line_by_pairs line fits even, h), is ∙ sym into)

    -- a buffer that a whole line was decoded into
    pub decoded_line : is_line line ≡ true → decoded_into line buffer ≡ sets buffer 0 (bytes_in line)
    unfolding bytes_in
    decoded_line h =
        let all = sym (line_by_pairs line fits even) ∙ h in
        rw (into, table_same (stored_at line) (byte_at line) (length line / 2) (λ k l. stored_byte line k (every_at (pair_at line) _ k all l)))

pub line_even : (line : List ℕ) → is_line line ≡ true → (length line ≤ longest_line) × (length line % 2 ≡ 0)
unfolding is_line
line_even line h =
    let e = and_left (even_line line) _ h in
    (leb-true _ _ (and_left (leb (length line) longest_line) _ e), eqb-true _ _ (and_right (leb (length line) longest_line) _ e))

pub bytes_count : (line : List ℕ) → length (bytes_in line) ≡ length line / 2
unfolding bytes_in
bytes_count line = table_length (byte_at line) (length line / 2)

pub decoded_length : (line buffer : List ℕ) → length (decoded_into line buffer) ≡ length buffer
unfolding decoded_into
decoded_length line buffer = go (even_line line)
  where
    go : (b : Bool) → length (cond b (sets buffer 0 (table (stored_at line) (length line / 2))) buffer) ≡ length buffer
    go true = length-sets buffer 0 (table (stored_at line) (length line / 2))
    go false = refl

-- what a caller learns that finds bytes: the line is one, and its bytes stand at the buffer's start
pub record Holds (line buffer : List ℕ) (n : ℕ) : Type 0 where
  pub is_line_lem : is_line line ≡ true
  pub within : n ≤ most_bytes
  pub bytes_are : take n (decoded_into line buffer) ≡ bytes_in line

pub decoded_holds : (line buffer : List ℕ) (n : ℕ) → most_bytes ≤ length buffer → decoded_of line ≡ Some n →
    Holds line buffer n
unfolding decoded_of
decoded_holds line buffer n room e = go (is_line line) refl e
  where
    go : (b : Bool) → is_line line ≡ b → cond b (Some (length line / 2)) None ≡ Some n → Holds line buffer n
    go false is f = absurd (let z : ◌≡◌ {A = ℕ} 0 1 = cc in omega arith)
    go true is f =
        let half : length line / 2 ≡ n = cc in
        having (line_even line is) (λ h.
        let l : length (bytes_in line) ≡ n = bytes_count line ∙ half in
        let same = part_same (bytes_in line) buffer 0 (omega (arith, h.0)) in
        record {
          is_line_lem = is;
          within = omega (arith, h.0);
          bytes_are =
              rw (decoded_line line buffer h.0 h.1 is) (subst (λ (k : ℕ). take k (sets buffer 0 (bytes_in line)) ≡ bytes_in line) l same);
        })

pub decoded_none : (line : List ℕ) → decoded_of line ≡ None → is_line line ≡ false
unfolding decoded_of
decoded_none line e = go (is_line line) refl e
  where
    go : (b : Bool) → is_line line ≡ b → cond b (Some (length line / 2)) None ≡ None → is_line line ≡ false
    go false is f = is
    go true is f = absurd (let z : ◌≡◌ {A = ℕ} 0 1 = cc in omega arith)
