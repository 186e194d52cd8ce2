-- Laws of keys: names are walked byte by byte, and keys that are found the same mean the same.
use Rattle.std.specs.Prelude.{◌+◌, ◌*◌, ◌%◌, ◌<◌, ◌≤◌, ◌&&◌, ◌∷◌, ◌≡◌}
use Rattle.common.specs.Words.{ℕ, zero, suc, arith, add-one, Bool, true, false, cond, List, [], refl, sym, ap, ◌∙◌, mod-lt, mul-le-mul, eqb}
use Rattle.common.specs.Words.{leb, eq-eqb, ne_eqb, eqb-true, length, get_or, drop-cons, drop_of_length-le, get_or-eq_default, ⊎_elim}
use Rattle.common.specs.Tests.{and_left, and_right, lt_or_le}
use Rattle.words.specs.Letters.{same, same_eq, same_refl}
use Rattle.tokens.specs.Tokens.{sort_of, run, letter, digit}
use Rattle.keys.specs.Keys.{spelled, Meaning, meaning, same_meaning, prime, turned, stirred, named, name_byte}
use Rattle.keys.specs.declared.Lanes.{Lanes}

-- ## Names byte by byte

-- no name's byte stands behind the end
pub byte_behind : (p : List ℕ) (i : ℕ) → length p ≤ i → name_byte (get_or p i 0) ≡ 0
unfolding name_byte sort_of
byte_behind p i h = rw (get_or-eq_default p 0 {n = i} h)

pub byte_inside : (p : List ℕ) (i : ℕ) → (name_byte (get_or p i 0) ≡ 0 → ⊥) → i < length p
byte_inside p i n = ⊎_elim (λ (l : i < length p). l) (λ (h : length p ≤ i). absurd (n (byte_behind p i h))) (lt_or_le i (length p))

-- a name that begins with this byte, and none where it is 0
abbrev pub begins : ℕ → List ℕ → List ℕ
begins b rest = cond (eqb b 0) [] (b ∷ rest)

begins_by : (b : ℕ) (rest : List ℕ) (t : Bool) → (leb letter (sort_of b) && leb (sort_of b) digit) ≡ t →
    cond t (b ∷ rest) [] ≡ begins (cond t b 0) rest
unfolding sort_of
begins_by zero rest true e = cc
begins_by (suc b) rest true e = rw (ne_eqb (suc b) 0 (λ h. omega arith))
begins_by b rest false e = refl

spelled_here : (p : List ℕ) (i : ℕ) → i < length p → (t : Bool) →
    (leb letter (sort_of (get_or p i 0)) && leb (sort_of (get_or p i 0)) digit) ≡ t →
    spelled p i ≡ cond t (get_or p i 0 ∷ spelled p (i + 1)) []
unfolding spelled run
spelled_here p i l true e = rw (add-one i, drop-cons p i 0 l, e)
spelled_here p i l false e = rw (drop-cons p i 0 l, e)

spelled_none : (p : List ℕ) (i : ℕ) → length p ≤ i → spelled p i ≡ []
unfolding spelled run
spelled_none p i h = rw (drop_of_length-le p {i = i} h)

-- the name at a place by its first byte
pub spelled_is : (p : List ℕ) (i : ℕ) → spelled p i ≡ begins (name_byte (get_or p i 0)) (spelled p (i + 1))
unfolding name_byte
spelled_is p i =
    ⊎_elim (λ (l : i < length p). spelled_here p i l _ refl ∙ begins_by (get_or p i 0) (spelled p (i + 1)) _ refl)
    (λ (h : length p ≤ i). spelled_none p i h ∙ ap (λ (b : ℕ). begins b (spelled p (i + 1))) (sym (byte_behind p i h)))
    (lt_or_le i (length p))

-- what the code compares: the first bytes of two names, and what follows them
module _ (p : List ℕ) (i j : ℕ) where
  pub same_apart : (name_byte (get_or p i 0) ≡ name_byte (get_or p j 0) → ⊥) → same (spelled p i) (spelled p j) ≡ false
  unfolding same
  same_apart h = rw (spelled_is p i, spelled_is p j) (go (name_byte (get_or p i 0)) (name_byte (get_or p j 0)) h)
    where
      go : (a b : ℕ) → (a ≡ b → ⊥) → same (begins a (spelled p (i + 1))) (begins b (spelled p (j + 1))) ≡ false
      go zero zero n = absurd (n refl)
      go zero (suc b) n = rw (ne_eqb (suc b) 0 (λ x. omega arith))
      go (suc a) zero n = rw (ne_eqb (suc a) 0 (λ x. omega arith))
      go (suc a) (suc b) n = rw (ne_eqb (suc a) 0 (λ x. omega arith), ne_eqb (suc b) 0 (λ x. omega arith), ne_eqb (suc a) (suc b) n)

  pub same_none : name_byte (get_or p i 0) ≡ 0 → same (spelled p i) (spelled p j) ≡ eqb (name_byte (get_or p j 0)) 0
  unfolding same
  same_none h = rw (spelled_is p i, spelled_is p j, h) (go (name_byte (get_or p j 0)))
    where
      go : (b : ℕ) → same [] (begins b (spelled p (j + 1))) ≡ eqb b 0
      go zero = refl
      go (suc b) = rw (ne_eqb (suc b) 0 (λ x. omega arith))

  pub same_onward : (name_byte (get_or p i 0) ≡ 0 → ⊥) → name_byte (get_or p i 0) ≡ name_byte (get_or p j 0) →
      same (spelled p (i + 1)) (spelled p (j + 1)) ≡ same (spelled p i) (spelled p j)
  unfolding same
  same_onward n e =
      rw (
        spelled_is p i,
        spelled_is p j,
        ← e,
        ne_eqb (name_byte (get_or p i 0)) 0 n,
        eq-eqb (name_byte (get_or p i 0)) (name_byte (get_or p i 0)) refl,
      )

-- ## Keys that are the same

pub same_means : (a b : Meaning) → same_meaning a b ≡ true → a ≡ b
unfolding same_meaning
same_means a b h =
    let s = eqb a.sort b.sort in
    let w = eqb a.within b.within in
    let x = same a.first b.first in
    let y = same a.second b.second in
    let h₁ = and_right s _ h in
    let h₂ = and_right w _ h₁ in
    let h₃ = and_right x _ h₂ in
    let e₀ : a.sort ≡ b.sort = eqb-true _ _ (and_left s _ h) in
    let e₁ : a.within ≡ b.within = eqb-true _ _ (and_left w _ h₁) in
    let e₂ : a.first ≡ b.first = same_eq _ _ (and_left x _ h₂) in
    let e₃ : a.second ≡ b.second = same_eq _ _ (and_left y _ h₃) in
    let e₄ : a.third ≡ b.third = same_eq _ _ (and_right y _ h₃) in
    λ i. meaning (e₀ i) (e₁ i) (e₂ i) (e₃ i) (e₄ i)

pub same_self : (a : Meaning) → same_meaning a a ≡ true
unfolding same_meaning
same_self a =
    rw (eq-eqb a.sort a.sort refl, eq-eqb a.within a.within refl, same_refl a.first, same_refl a.second, same_refl a.third)

pub means_same : (a b : Meaning) → a ≡ b → same_meaning a b ≡ true
means_same a b e = rw e (same_self b)

-- ## Hashes

pub turned_below : (f own other n : ℕ) → turned f own other n < prime
unfolding turned
turned_below f own other n = mod-lt _ (omega arith)

-- what a turn multiplies fits
pub product_below : (h f : ℕ) → h < prime → f < prime → h * f ≤ prime * prime
product_below h f l g = mul-le-mul {n₁ = h} {m₁ = f} {n₂ = prime} {m₂ = prime} (omega arith) (omega arith)

pub square_below : (x : ℕ) → (x % prime) * (x % prime) ≤ prime * prime
square_below x = product_below (x % prime) (x % prime) (mod-lt x (omega arith)) (mod-lt x (omega arith))

-- a hash with a name more, by the name's first byte
pub named_ends : (l : Lanes) (p : List ℕ) (i : ℕ) → name_byte (get_or p i 0) ≡ 0 → stirred l 0 ≡ named l (spelled p i)
unfolding named
named_ends l p i e = rw (spelled_is p i, e)

pub named_onward : (l : Lanes) (p : List ℕ) (i : ℕ) → (name_byte (get_or p i 0) ≡ 0 → ⊥) →
    named (stirred l (name_byte (get_or p i 0))) (spelled p (i + 1)) ≡ named l (spelled p i)
unfolding named
named_onward l p i n = rw (spelled_is p i, ne_eqb (name_byte (get_or p i 0)) 0 n)
