-- Letter case does not count: a text with every letter in lower case gives the same plain text. A plain text is as long as its text.
use Rattle.std.specs.Prelude.{◌+◌, ◌<◌, ◌≤◌, ◌&&◌, ◌∷◌, ◌⊎◌, ◌≡◌, ◌||◌}
use Rattle.std.specs.Char.{to_ascii_lowercase}
use Rattle.common.specs.Words.{ℕ, zero, suc, arith, Bool, true, false, List, [], map, inl, inr, ⊎_elim, refl, sym, ap, ◌∙◌, eqb, leb}
use Rattle.common.specs.Words.{length, get_or, drop, ne_eqb, leb-true, lt-leb, le-leb, lt-ltb, le-ltb, ltb, ltb-true}
use Rattle.common.specs.Tests.{true_or_false, both, lt_or_le}
use Rattle.std.proofs.Math.Bool.{and-false}
use Rattle.std.proofs.lemmas.List.{length-map}
use Rattle.std.proofs.Math.ListN.{get_or-map}
use Rattle.plain.specs.Plain.{lower, two, three, string_by, close_by, annex_rest, begun, step_of, plain_by, mark_rest, plain_of}

-- ## Length

plain_length_by : (c : Bool) (n : ℕ) (t : List ℕ) → length (plain_by c n t) ≡ length t
unfolding plain_by
plain_length_by c n [] = refl
plain_length_by c n (b ∷ bs) = let s = step_of c n b bs in ap suc (plain_length_by s.comment s.left bs)

pub plain_length : (t : List ℕ) → length (plain_of t) ≡ length t
unfolding plain_of
plain_length t = plain_length_by false (mark_rest t) t

pub lower_length : (t : List ℕ) → length (map lower t) ≡ length t
lower_length t = length-map t lower

-- ## Letters

-- a capital becomes a small letter, and nothing else changes
pub lower_cases : (b : ℕ) → ((lower b ≡ b + 0x20) × (0x41 ≤ b) × (b ≤ 0x5a)) ⊎ (lower b ≡ b)
unfolding lower
lower_cases b =
    ⊎_elim (λ (e : (leb 0x41 b && leb b 0x5a) ≡ true).
    let h = both (leb 0x41 b) e in inl (rw e, leb-true 0x41 b h.0, leb-true b 0x5a h.1))
    (λ (e : (leb 0x41 b && leb b 0x5a) ≡ false). inr (rw e))
    (true_or_false (leb 0x41 b && leb b 0x5a))

-- what the library makes of a letter
pub lower_is : (b : ℕ) → to_ascii_lowercase b ≡ lower b
unfolding lower
lower_is b =
    ⊎_elim (λ (l : b < 0x41). rw (lt-ltb b 0x41 l, lt-leb 0x41 b l))
    (λ (h : 0x41 ≤ b).
    ⊎_elim (λ (l : b < 0x5b). rw (le-ltb b 0x41 h, lt-ltb b 0x5b l, le-leb 0x41 b h, le-leb b 0x5a (omega arith)))
    (λ (g : 0x5b ≤ b). rw (le-ltb b 0x41 h, le-ltb b 0x5b g, le-leb 0x41 b h, lt-leb b 0x5a (omega arith))) (lt_or_le b 0x5b))
    (lt_or_le b 0x41)

lower_high : (b : ℕ) → 0x5a < b → lower b ≡ b
unfolding lower
lower_high b h = rw (lt-leb b 0x5a h, and-false)

pub lower_lower : (b : ℕ) → lower (lower b) ≡ lower b
lower_lower b =
    ⊎_elim (λ (h : (lower b ≡ b + 0x20) × (0x41 ≤ b) × (b ≤ 0x5a)). rw h.0 (lower_high (b + 0x20) (omega (arith, h))))
    (λ (e : lower b ≡ b). ap lower e)
    (lower_cases b)

-- a byte below or above the letters
abbrev sign : ℕ → Bool
sign k = ltb k 0x41 || ltb 0x7a k

apart : (b k : ℕ) → 0x41 ≤ b → b ≤ 0x7a → sign k ≡ true → b ≡ k → ⊥
apart b k l h s e = go (ltb k 0x41) refl s
  where
    go : (t : Bool) → ltb k 0x41 ≡ t → (t || ltb 0x7a k) ≡ true → ⊥
    go true f s = omega (arith, ltb-true k 0x41 f)
    go false f s = omega (arith, ltb-true 0x7a k s)

-- such a byte is told as before
lower_sign : (b k : ℕ) → sign k ≡ true → eqb (lower b) k ≡ eqb b k
lower_sign b k s =
    ⊎_elim (λ (h : (lower b ≡ b + 0x20) × (0x41 ≤ b) × (b ≤ 0x5a)).
    ne_eqb (lower b) k (apart (lower b) k (omega (arith, h)) (omega (arith, h)) s) ∙ sym (ne_eqb b k (apart b k h.1 (omega (arith, h)) s)))
    (λ (e : lower b ≡ b). rw e)
    (lower_cases b)

at_lower : (bs : List ℕ) (i k : ℕ) → sign k ≡ true → eqb (get_or (map lower bs) i 0) k ≡ eqb (get_or bs i 0) k
unfolding lower
at_lower bs i k s = ap (λ (x : ℕ). eqb x k) (get_or-map lower bs i 0) ∙ lower_sign (get_or bs i 0) k s

two_lower : (bs : List ℕ) (a b : ℕ) → sign a ≡ true → sign b ≡ true → two (map lower bs) a b ≡ two bs a b
unfolding two
two_lower bs a b s r = rw (at_lower bs 0 a s, at_lower bs 1 b r)

three_lower : (bs : List ℕ) (a b c : ℕ) → sign a ≡ true → sign b ≡ true →
    sign c ≡ true → three (map lower bs) a b c ≡ three bs a b c
unfolding three
three_lower bs a b c s r q = rw (two_lower bs a b s r, at_lower bs 2 c q)

-- ## Strings, annexes and comments

string_lower : (n z : ℕ) (bs : List ℕ) → string_by n z (map lower bs) ≡ string_by n z bs
unfolding string_by
string_lower n z [] = refl
string_lower n z (b ∷ []) = rw (lower_sign b 0x22 refl)
string_lower n z (b ∷ c ∷ bs) =
    rw (lower_sign b 0x0a refl, lower_sign b 0x22 refl, lower_sign c 0x22 refl, string_lower (n + 2) (n + 1) bs, string_lower (n + 1) z (c ∷ bs))

close_lower : (n : ℕ) (bs : List ℕ) → close_by n (map lower bs) ≡ close_by n bs
unfolding close_by
close_lower n [] = refl
close_lower n (b ∷ bs) = rw (three_lower (b ∷ bs) 0x2a 0x2a 0x7d refl refl refl, close_lower (n + 1) bs)

annex_lower : (bs : List ℕ) → annex_rest (map lower bs) ≡ annex_rest bs
unfolding annex_rest
annex_lower bs = rw (two_lower bs 0x2a 0x2a refl refl, drop_lower bs, close_lower 2 (drop 2 bs))
  where
    drop_lower : (bs : List ℕ) → drop 2 (map lower bs) ≡ map lower (drop 2 bs)
    drop_lower [] = refl
    drop_lower (b ∷ []) = refl
    drop_lower (b ∷ c ∷ bs) = refl

begun_lower : (b : ℕ) (bs : List ℕ) → begun (lower b) (map lower bs) ≡ begun b bs
unfolding begun
begun_lower b bs =
    rw (two_lower (b ∷ bs) 0x2d 0x2d refl refl, lower_sign b 0x22 refl, lower_sign b 0x7b refl, string_lower 0 0 bs, annex_lower bs, lower_lower b)

step_lower : (c : Bool) (n b : ℕ) (bs : List ℕ) → step_of c n (lower b) (map lower bs) ≡ step_of c n b bs
unfolding step_of
step_lower c (suc n) b bs = refl
step_lower true zero b bs = rw (lower_sign b 0x0a refl)
step_lower false zero b bs = begun_lower b bs

-- ## The plain text

plain_lower_by : (c : Bool) (n : ℕ) (t : List ℕ) → plain_by c n (map lower t) ≡ plain_by c n t
unfolding plain_by
plain_lower_by c n [] = refl
plain_lower_by c n (b ∷ bs) =
    let s = step_of c n b bs in
    rw (step_lower c n b bs, plain_lower_by s.comment s.left bs)

pub plain_lower : (t : List ℕ) → plain_of (map lower t) ≡ plain_of t
unfolding plain_of mark_rest
plain_lower t = rw (three_lower t 0xef 0xbb 0xbf refl refl refl) (plain_lower_by false (mark_rest t) t)

-- so two texts that differ in letter case alone have one plain text
pub plain_case : (t u : List ℕ) → map lower t ≡ map lower u → plain_of t ≡ plain_of u
plain_case t u e = sym (plain_lower t) ∙ ap plain_of e ∙ plain_lower u
