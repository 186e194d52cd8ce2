-- Writing a line piece by piece: digits behind digits are the digits of all the bytes, and the line feed ends them.
use Rattle.std.specs.Prelude.{◌+◌, ◌*◌, ◌∷◌, ◌++◌, ◌≡◌, ◌<◌, ◌≤◌}
use Rattle.common.specs.Words.{ℕ, zero, suc, arith, add-one, List, [], append_assoc, refl, ◌∙◌, length, get_or, length-append, sets, take}
use Rattle.common.specs.Words.{length-take-le, get_or-take}
use Rattle.common.specs.Stores.{sets_append}
use Rattle.digits.specs.Hex.{digits}
use Rattle.digits.specs.HexLaws.{digits_append, digits_length}
use Rattle.digits.specs.Numbers.{in_bytes}
use Rattle.digits.specs.NumberLaws.{bytes_length}
use Rattle.frames.specs.Answers.{line_of, each_size, sizes_bytes}

-- what a function that writes an answer's line leaves: how many bytes it wrote, and the buffer after
abbrev pub Written : List ℕ → List ℕ → ℕ → List ℕ → Type 0
Written bytes out count out' = (count ≡ length (line_of bytes)) × (out' ≡ sets out 0 (line_of bytes))

-- the digits of some bytes stand from index i on; those of more bytes follow
pub piece : (a b l : List ℕ) (i j : ℕ) → i + 2 * length a ≡ j → sets (sets l i (digits a)) j (digits b) ≡ sets l i (digits (a ++ b))
piece a b l i j e =
    rw (digits_append a b, sets_append (digits a) (digits b) l i, digits_length a, e)

pub line_length : (bytes : List ℕ) → length (line_of bytes) ≡ 2 * length bytes + 1
unfolding line_of
line_length bytes = length-append (digits bytes) (10 ∷ []) ∙ omega (arith, digits_length bytes)

-- the same of buffers that calls have left: digits of `a` from the start, those of `b` at index i behind them
pub next : (a b out before out' : List ℕ) (i : ℕ) →
    before ≡ sets out 0 (digits a) → out' ≡ sets before i (digits b) → 2 * length a ≡ i → out' ≡ sets out 0 (digits (a ++ b))
next a b out before out' i e f g = f ∙ rw e (piece a b out 0 i (omega arith))

-- the line feed
pub ended : (bytes out before out' : List ℕ) (at count : ℕ) →
    before ≡ sets out 0 (digits bytes) → (count ≡ at + 1) × (out' ≡ sets before at (10 ∷ [])) → 2 * length bytes ≡ at →
    Written bytes out count out'
unfolding line_of
ended bytes out before out' at count e f g =
    let z : 0 + length (digits bytes) ≡ at = omega (arith, digits_length bytes) in
    (omega (arith, f.0, line_length bytes), f.1 ∙ rw (e, sets_append (digits bytes) (10 ∷ []) out 0, z))

-- a line of a byte, a number and one thing more
pub three : (a b c out o p q out' : List ℕ) (i j at count : ℕ) →
    o ≡ sets out 0 (digits a) → p ≡ sets o i (digits b) → q ≡ sets p j (digits c) →
    (count ≡ at + 1) × (out' ≡ sets q at (10 ∷ [])) →
    2 * length a ≡ i → i + 2 * length b ≡ j → j + 2 * length c ≡ at → Written (a ++ (b ++ c)) out count out'
three a b c out o p q out' i j at count e f g h x y z =
    let l : length (a ++ b) ≡ length a + length b = length-append a b in
    let m : length ((a ++ b) ++ c) ≡ length (a ++ b) + length c = length-append (a ++ b) c in
    rw (← append_assoc a b c)
    (ended ((a ++ b) ++ c) out q out' at count (next (a ++ b) c out p q j (next a b out o p i e f x) g (omega arith)) h (omega arith))

-- ## Sizes

pub sizes_none : (sizes l : List ℕ) → sets l 2 (digits (each_size sizes 0)) ≡ l
unfolding each_size digits
sizes_none sizes l = refl

pub sizes_length : (sizes : List ℕ) (n : ℕ) → length (each_size sizes n) ≡ 2 * n
unfolding each_size
sizes_length sizes zero = refl
sizes_length sizes (suc n) =
    length-append (each_size sizes n) (in_bytes 2 (get_or sizes n 0)) ∙ omega (arith, sizes_length sizes n, bytes_length 2 (get_or sizes n 0))

-- of sizes that are lent as a slice
each_front : (sizes : List ℕ) (n k : ℕ) → k ≤ n → each_size (take n sizes) k ≡ each_size sizes k
unfolding each_size
each_front sizes n zero h = refl
each_front sizes n (suc k) h =
    let l : k < n = omega arith in
    rw (each_front sizes n k (omega arith), get_or-take n sizes k 0 l)

pub sizes_front : (sizes : List ℕ) (n : ℕ) → n ≤ length sizes → sizes_bytes (take n sizes) (length (take n sizes)) ≡ sizes_bytes sizes n
unfolding sizes_bytes
sizes_front sizes n h = rw (length-take-le n sizes h, each_front sizes n n (omega arith))

pub sizes_more : (sizes l : List ℕ) (q : ℕ) →
    sets (sets l 2 (digits (each_size sizes q))) (2 + 4 * q) (digits (in_bytes 2 (get_or sizes q 0))) ≡ sets l 2 (digits (each_size sizes (q + 1)))
unfolding each_size
sizes_more sizes l q =
    rw (add-one q) (piece (each_size sizes q) (in_bytes 2 (get_or sizes q 0)) l 2 (2 + 4 * q) (omega (arith, sizes_length sizes q)))
