-- The carry buffer: its first `used` bytes are the carry. What it holds after a part of a line was put behind the carry, and the line
-- that the carry and that part make.
use Rattle.std.specs.Prelude.{◌+◌, ◌-◌, ◌<◌, ◌≤◌, ◌++◌, ◌≡◌}
use Rattle.common.specs.Words.{ℕ, min, arith, cond, List, ⊎_elim, sym, ap, ◌∙◌, eqb, ltb, length, take, drop, length-append, length-take}
use Rattle.common.specs.Words.{append_assoc, drop-drop}
use Rattle.common.specs.Words.{take_all, take-take, take-length, length-take-le, sets, length-sets, sets-eq, take-append-add, take_at, eq-eqb, ne_eqb}
use Rattle.common.specs.Words.{lt-ltb}
use Rattle.std.specs.Borrow.{Bor}
use borrow.Rule.Slice.PartMut.{put_mid}
use Rattle.common.specs.Tests.{lt_or_le}
use Rattle.common.specs.Stores.{part}
use Rattle.lines.specs.Lines.{carry_limit, cut}

abbrev pub carried_of : ℕ → List ℕ → ℕ
carried_of used xs = min carry_limit (used + length xs)

unfoldable pub held_of : List ℕ → ℕ → List ℕ → List ℕ
held_of held used xs = sets held used (take (carry_limit - used) xs)

-- the code copies into a part of the buffer
pub put_sets : (l vs : List ℕ) (i k : ℕ) → k ≡ length vs → i + k ≤ length l → put_mid i k l vs ≡ sets l i vs
put_sets l vs i k e h = rw (e, sets-eq vs l i (omega arith), append_assoc (take i l) vs (drop (i + length vs) l), drop-drop (length vs) i l)

-- the code counts how many bytes it takes
pub take_least : (n : ℕ) (xs : List ℕ) → take (min n (length xs)) xs ≡ take n xs
take_least n xs =
    ⊎_elim (λ (h : n < length xs). let e : min n (length xs) ≡ n = omega arith in rw e)
    (λ (h : length xs ≤ n).
    let e : min n (length xs) ≡ length xs = omega arith in
    rw (e, take-length xs) (sym (take_all n xs h)))
    (lt_or_le n (length xs))

-- the carry is then the cut of what it was with that part behind it
pub held_carry :
    (held : List ℕ) (used : ℕ) (xs : List ℕ) → used ≤ carry_limit → carry_limit ≤ length held →
    take (carried_of used xs) (held_of held used xs) ≡ cut (take used held ++ xs)
unfolding held_of cut
held_carry held used xs u k = there ∙ sym back
  where
    p : List ℕ
    p = take used held

    ys : List ℕ
    ys = take (carry_limit - used) xs

    p_length : length p ≡ used
    p_length = length-take-le used held (omega arith)

    ys_length : length ys ≡ min (carry_limit - used) (length xs)
    ys_length = length-take (carry_limit - used) xs

    there : take (carried_of used xs) (sets held used ys) ≡ p ++ ys
    there =
        rw (sets-eq ys held used (omega (arith, ys_length)))
        (take_at (p ++ ys) (drop (used + length ys) held) (carried_of used xs) (omega (arith, length-append p ys, p_length, ys_length)))

    back : take carry_limit (p ++ xs) ≡ p ++ ys
    back =
        let e : carry_limit ≡ length p + (carry_limit - used) = omega (arith, p_length) in
        ap (λ (n : ℕ). take n (p ++ xs)) e ∙ take-append-add p xs (carry_limit - used)

-- ## The line

-- a line that no carry begun is not put into the buffer
abbrev pub joined_of : ℕ → List ℕ → ℕ
joined_of used xs = cond (eqb used 0) 0 (carried_of used xs)

abbrev pub joined_in : List ℕ → ℕ → List ℕ → List ℕ
joined_in held used xs = cond (eqb used 0) held (held_of held used xs)

-- the line stands at the buffer's start, or in the block
abbrev pub line_of : List ℕ → ℕ → List ℕ → List ℕ
line_of held n xs = cond (ltb 0 n) (take n held) (cut xs)

-- and where it lies there
abbrev pub LineGives : Bor (List ℕ) → ℕ → Bor (List ℕ) → ℕ → ℕ → Bor (List ℕ) → Type 0
LineGives held n piece from to r =
    (r.now ≡ line_of held.now n (part piece.now from (to - from)))
    × (r.ref_ptr ≡ cond (ltb 0 n) held.ref_ptr (piece.ref_ptr.0, from + piece.ref_ptr.1))

-- the code counts its bytes
pub cut_take : (n : ℕ) (l : List ℕ) → cut (take n l) ≡ take (min carry_limit n) l
unfolding cut
cut_take n l =
    ⊎_elim (λ (h : carry_limit < n). let e : min carry_limit n ≡ carry_limit = omega arith in rw e (take-take carry_limit n l (omega arith)))
    (λ (h : n ≤ carry_limit).
    let e : min carry_limit n ≡ n = omega arith in
    rw e (take_all carry_limit (take n l) (omega (arith, length-take n l))))
    (lt_or_le carry_limit n)

-- it is the carry and the line's part of the block, cut
pub line_is :
    (held : List ℕ) (used : ℕ) (xs : List ℕ) → used ≤ carry_limit → carry_limit ≤ length held →
    line_of (joined_in held used xs) (joined_of used xs) xs ≡ cut (take used held ++ xs)
line_is held used xs u k =
    ⊎_elim (λ (h : 0 < used). rw (ne_eqb used 0 (omega arith), lt-ltb 0 (carried_of used xs) (omega arith)) (held_carry held used xs u k))
    (λ (h : used ≤ 0). let e : used ≡ 0 = omega arith in rw e)
    (lt_or_le 0 used)

pub joined_le : (used : ℕ) (xs : List ℕ) → joined_of used xs ≤ carry_limit
joined_le used xs =
    ⊎_elim (λ (h : 0 < used). rw (ne_eqb used 0 (omega arith)) (omega arith)) (λ (h : used ≤ 0). rw (eq-eqb used 0 (omega arith)) (omega arith))
    (lt_or_le 0 used)

pub joined_length : (held : List ℕ) (used : ℕ) (xs : List ℕ) → length (joined_in held used xs) ≡ length held
unfolding held_of
joined_length held used xs =
    ⊎_elim (λ (h : 0 < used). rw (ne_eqb used 0 (omega arith)) (length-sets held used (take (carry_limit - used) xs)))
    (λ (h : used ≤ 0). rw (eq-eqb used 0 (omega arith)))
    (lt_or_le 0 used)
