-- Laws of numbers in bytes, over their width: what a loop adds in one turn, bounds, and that what was written is read back.
use Rattle.std.specs.Prelude.{◌+◌, ◌-◌, ◌*◌, ◌/◌, ◌%◌, ◌^◌, ◌<◌, ◌≤◌, ◌∷◌, ◌++◌, ◌≡◌}
use Rattle.common.specs.Words.{ℕ, zero, suc, arith, add-one, div-add-mod', div-lt_iff_lt-mul, pow-suc, pow-le-pow_right, List, [], refl, sym, ap}
use Rattle.common.specs.Words.{◌∙◌, length, get_or, set, length-append, get_or-append, sets, set_comm, get_or_at}
use Rattle.common.specs.Stores.{sets_append}
use Rattle.digits.specs.Hex.{digits}
use Rattle.digits.specs.HexLaws.{digits_append, digits_length}
use Rattle.digits.specs.Numbers.{value_at, in_bytes}

-- ## Reading

pub value_none : (bytes : List ℕ) (at : ℕ) → value_at bytes at 0 ≡ 0
unfolding value_at
value_none bytes at = refl

pub value_more : (bytes : List ℕ) (at k : ℕ) → value_at bytes at (k + 1) ≡ value_at bytes at k * 256 + get_or bytes (at + k) 0
unfolding value_at
value_more bytes at k = rw (add-one k)

-- ## Writing

pub bytes_length : (width n : ℕ) → length (in_bytes width n) ≡ width
unfolding in_bytes
bytes_length zero n = refl
bytes_length (suc width) n = length-append (in_bytes width (n / 256)) (n % 256 ∷ []) ∙ omega (arith, bytes_length width (n / 256))

bytes_last : (width n : ℕ) → 0 < width → in_bytes width n ≡ in_bytes (width - 1) (n / 256) ++ (n % 256 ∷ [])
unfolding in_bytes
bytes_last zero n h = absurd (omega arith)
bytes_last (suc width) n h = let e : suc width - 1 ≡ width = omega arith in rw e

-- stores that do not meet may change places
set_sets : (vs l : List ℕ) (i j x : ℕ) → i < j → sets (set l i x) j vs ≡ set (sets l j vs) i x
set_sets [] l i j x h = refl
set_sets (v ∷ vs) l i j x h =
    let swapped = set_comm l i j x v (λ (e : i ≡ j). omega arith) in
    ap (λ (m : List ℕ). sets m (suc j) vs) swapped ∙ set_sets vs (set l j v) i (suc j) x (omega arith)

pub sets_swap : (xs ys l : List ℕ) (i j : ℕ) → i + length xs ≤ j → sets (sets l i xs) j ys ≡ sets (sets l j ys) i xs
sets_swap [] ys l i j h = refl
sets_swap (x ∷ xs) ys l i j h =
    sets_swap xs ys (set l i x) (suc i) j (omega arith) ∙ ap (λ (m : List ℕ). sets m (suc i) xs) (set_sets ys l i j x (omega arith))

-- a turn of the loop that writes a number from its last byte on: what is left to write, and its last byte
pub write_more :
    (l : List ℕ) (at k n : ℕ) → 0 < k →
    sets (sets l (at + 2 * (k - 1)) (digits (n % 256 ∷ []))) at (digits (in_bytes (k - 1) (n / 256))) ≡ sets l at (digits (in_bytes k n))
write_more l at k n h =
    let front = digits (in_bytes (k - 1) (n / 256)) in
    let last = digits (n % 256 ∷ []) in
    let e : length front ≡ 2 * (k - 1) = digits_length (in_bytes (k - 1) (n / 256)) ∙ ap (λ (m : ℕ). 2 * m) (bytes_length (k - 1) (n / 256)) in
    rw (bytes_last k n h, digits_append (in_bytes (k - 1) (n / 256)) (n % 256 ∷ []), sets_append front last l at, e)
    (sym (sets_swap front last l at (at + 2 * (k - 1)) (omega (arith, e))))

pub write_none : (l : List ℕ) (at n : ℕ) → sets l at (digits (in_bytes 0 n)) ≡ l
unfolding in_bytes digits
write_none l at n = refl

-- ## Written and read back

value_front : (xs ys : List ℕ) (k : ℕ) → k ≤ length xs → value_at (xs ++ ys) 0 k ≡ value_at xs 0 k
unfolding value_at
value_front xs ys zero h = refl
value_front xs ys (suc k) h =
    let z : 0 + k ≡ k = omega arith in
    rw (z, value_front xs ys k (omega arith), get_or-append xs ys 0 k (omega arith))

-- a number that fits its width is read back as it was written
pub value_back : (width n : ℕ) → n < 256 ^ width → value_at (in_bytes width n) 0 width ≡ n
unfolding value_at in_bytes
value_back zero n h = omega arith
value_back (suc width) n h =
    let z : 0 + width ≡ width = omega arith in
    let l = bytes_length width (n / 256) in
    rw (
      z,
      value_front (in_bytes width (n / 256)) (n % 256 ∷ []) width (omega (arith, l)),
      get_or_at (in_bytes width (n / 256)) (n % 256) [] 0 width l,
      value_back width (n / 256) ((div-lt_iff_lt-mul (omega arith)).1 (rw (pow-suc 256 width) at h)),
    )
    (div-add-mod' n 256)

-- ## Bounds: a number of up to six bytes, and one byte more, fits 64 bits

abbrev pub widest : ℕ
widest = 6

-- n is below 256 ^ k, and so is n and a byte more below 256 ^ (k + 1)
pub below_more : (n b k : ℕ) → n < 256 ^ k → b < 256 → n * 256 + b < 256 ^ (k + 1)
below_more n b k h g = rw (add-one k, pow-suc 256 k) (omega arith)

pub below_word : (n k : ℕ) → n < 256 ^ k → k < widest → n * 256 + 255 < 2 ^ 64
below_word n k h l =
    let q : k ≤ 6 = omega arith in
    let p : 256 ^ k ≤ 256 ^ 6 = pow-le-pow_right (omega arith) q in
    omega arith
