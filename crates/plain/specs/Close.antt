-- Laws of the plain text at the code's places: how a string goes on, that behind the last `**}` no annex is closed, and how the plain text
-- is filled from the front.
use Rattle.std.specs.Prelude.{◌+◌, ◌-◌, ◌<◌, ◌≤◌, ◌&&◌, ◌∷◌, ◌++◌, ◌≡◌}
use Rattle.common.specs.Words.{ℕ, zero, suc, arith, add-one, Bool, true, false, cond, not, List, [], append_assoc, append-nil, refl, sym, ap}
use Rattle.common.specs.Words.{◌∙◌, eqb, length, get_or, drop, take, set, drop-cons, drop-drop, drop_of_length-le, get_or-drop, ⊎_elim}
use Rattle.common.specs.Words.{eq-or-lt_of_le, le_of_suc-le-suc, take-suc-set, take_all, eq-eqb, ne_eqb, eqb-true, not-true}
use Rattle.common.specs.Tests.{clash, both}
use Rattle.plain.specs.Plain.{Step, two, three, string_by, close_by, annex_rest, step, begun, step_of, plain_by}

-- ## The front of what is left, at a place of the text

module _ (p : List ℕ) (i : ℕ) where
  pub first_at : get_or (drop i p) 0 0 ≡ get_or p i 0
  first_at = let e : i + 0 ≡ i = omega arith in get_or-drop i p 0 0 ∙ ap (λ (k : ℕ). get_or p k 0) e

  pub two_at : (a b : ℕ) → two (drop i p) a b ≡ (eqb (get_or p i 0) a && eqb (get_or p (i + 1) 0) b)
  unfolding two
  two_at a b = rw (first_at, get_or-drop i p 1 0)

  pub three_at : (a b c : ℕ) → three (drop i p) a b c ≡ (two (drop i p) a b && eqb (get_or p (i + 2) 0) c)
  unfolding three
  three_at a b c = rw (get_or-drop i p 2 0)

  pub front : i < length p → drop i p ≡ get_or p i 0 ∷ drop (i + 1) p
  front h = rw (add-one i) (drop-cons p i 0 h)

-- ## Strings

-- a doubled quote counts as one
abbrev pub quote_width : ℕ → ℕ
quote_width b = cond (eqb b 0x22) 2 1

-- a quote that is not doubled
unfoldable pub ends_string : List ℕ → ℕ → Bool
ends_string p i = eqb (get_or p i 0) 0x22 && not (eqb (get_or p (i + 1) 0) 0x22)

-- what is left, from its first byte on
string_front : (n z b : ℕ) (bs : List ℕ) → string_by n z (b ∷ bs) ≡
    cond (eqb b 0x0a) z (cond (eqb b 0x22) (cond (eqb (get_or bs 0 0) 0x22) (string_by (n + 2) (n + 1) (drop 1 bs)) (n + 1)) (string_by (n + 1) z bs))
unfolding string_by
string_front n z b [] = go (eqb b 0x0a) refl
  where
    go : (t : Bool) → eqb b 0x0a ≡ t → cond (eqb b 0x22) (n + 1) z ≡ cond t z (cond (eqb b 0x22) (n + 1) z)
    go true e = rw (eqb-true b 0x0a e)
    go false e = refl
string_front n z b (c ∷ bs) = refl

-- where a string has ended so far, by a byte that does not end it
abbrev pub ended_by : ℕ → ℕ → ℕ → ℕ
ended_by b n z = cond (eqb b 0x22) (n + 1) z

module _ (p : List ℕ) (n z i : ℕ) where
  pub string_none : length p ≤ i → string_by n z (drop i p) ≡ z
  unfolding string_by
  string_none h = rw (drop_of_length-le p {i = i} h)

  pub string_line : i < length p → get_or p i 0 ≡ 0x0a → string_by n z (drop i p) ≡ z
  string_line h e = rw (front p i h, string_front, eq-eqb (get_or p i 0) 0x0a e)

  pub string_ends : i < length p → (get_or p i 0 ≡ 0x0a → ⊥) → ends_string p i ≡ true → string_by n z (drop i p) ≡ n + 1
  unfolding ends_string
  string_ends h l e =
      let q = both (eqb (get_or p i 0) 0x22) e in
      rw (front p i h, string_front, ne_eqb (get_or p i 0) 0x0a l, q.0, first_at p (i + 1), not-true (eqb (get_or p (i + 1) 0) 0x22) q.1)

  pub string_more : i < length p → (get_or p i 0 ≡ 0x0a → ⊥) → ends_string p i ≡ false →
      string_by (n + quote_width (get_or p i 0)) (ended_by (get_or p i 0) n z) (drop (i + quote_width (get_or p i 0)) p) ≡ string_by n z (drop i p)
  unfolding ends_string
  string_more h l e =
      rw (front p i h, string_front, ne_eqb (get_or p i 0) 0x0a l, first_at p (i + 1), drop-drop 1 (i + 1) p)
      (go (eqb (get_or p i 0) 0x22) (eqb (get_or p (i + 1) 0) 0x22) e)
    where
      go : (q d : Bool) → (q && not d) ≡ false → string_by (n + cond q 2 1) (cond q (n + 1) z) (drop (i + cond q 2 1) p)
          ≡ cond q (cond d (string_by (n + 2) (n + 1) (drop (i + 1 + 1) p)) (n + 1)) (string_by (n + 1) z (drop (i + 1) p))
      go true true e = let y : i + 1 + 1 ≡ i + 2 = omega arith in rw y
      go true false e = absurd (clash refl e)
      go false d e = refl

-- ## Annexes

abbrev pub closes_at : List ℕ → ℕ → Bool
closes_at p i = three (drop i p) 0x2a 0x2a 0x7d

-- the place behind the first byte of the last `**}` that begins below n, 0 where there is none
unfoldable pub last_by : List ℕ → ℕ → ℕ
last_by p zero = 0
last_by p (suc n) = cond (closes_at p n) (suc n) (last_by p n)

abbrev pub last_close : List ℕ → ℕ
last_close p = last_by p (length p)

pub last_here : (p : List ℕ) (n : ℕ) → 0 < n → closes_at p (n - 1) ≡ true → last_by p n ≡ n
unfolding last_by
last_here p zero h e = refl
last_here p (suc n) h e = let z : suc n - 1 ≡ n = omega arith in rw (rw z at e)

pub last_more : (p : List ℕ) (n : ℕ) → 0 < n → closes_at p (n - 1) ≡ false → last_by p (n - 1) ≡ last_by p n
unfolding last_by
last_more p zero h e = absurd (omega arith)
last_more p (suc n) h e = let z : suc n - 1 ≡ n = omega arith in rw (z, rw z at e)

-- no `**}` begins between the last and the place n
last_above : (p : List ℕ) (n i j : ℕ) → last_by p n ≤ i → i ≤ j → j < n → closes_at p j ≡ false
unfolding last_by
last_above p zero i j h g l = absurd (omega arith)
last_above p (suc n) i j h g l = go (closes_at p n) refl h (last_above p n i j)
  where
    go : (t : Bool) → closes_at p n ≡ t → cond t (suc n) (last_by p n) ≤ i →
        (last_by p n ≤ i → i ≤ j → j < n → closes_at p j ≡ false) →
        closes_at p j ≡ false
    go true e h f = absurd (omega arith)
    go false e h f = ⊎_elim (λ (x : j ≡ n). rw x e) (λ (x : j < n). f h g x) (eq-or-lt_of_le (le_of_suc-le-suc l))

module _ (p : List ℕ) (n i : ℕ) where
  pub close_none : length p ≤ i → close_by n (drop i p) ≡ 0
  unfolding close_by
  close_none h = rw (drop_of_length-le p {i = i} h)

  pub close_here : i < length p → closes_at p i ≡ true → close_by n (drop i p) ≡ n + 3
  unfolding close_by
  close_here h e = rw (front p i h, rw (front p i h) at e)

  pub close_more : i < length p → closes_at p i ≡ false → close_by (n + 1) (drop (i + 1) p) ≡ close_by n (drop i p)
  unfolding close_by
  close_more h e = rw (front p i h, rw (front p i h) at e)

-- behind the last `**}` nothing closes an annex
closed_by : (p : List ℕ) (n i k : ℕ) → length p - i ≡ k → last_close p ≤ i → close_by n (drop i p) ≡ 0
closed_by p n i zero e h = close_none p n i (omega arith)
closed_by p n i (suc k) e h =
    sym (close_more p n i (omega arith) (last_above p (length p) i i h (omega arith) (omega arith)))
    ∙ closed_by p (n + 1) (i + 1) k (omega arith) (omega arith)

pub closed_never : (p : List ℕ) (n i : ℕ) → last_close p ≤ i → close_by n (drop i p) ≡ 0
closed_never p n i h = closed_by p n i (length p - i) refl h

module _ (p : List ℕ) (i : ℕ) where
  pub annex_none : two (drop i p) 0x2a 0x2a ≡ false → annex_rest (drop i p) ≡ 0
  unfolding annex_rest
  annex_none e = rw e

  pub annex_close : two (drop i p) 0x2a 0x2a ≡ true → annex_rest (drop i p) ≡ close_by 2 (drop (i + 2) p)
  unfolding annex_rest
  annex_close e = rw (e, drop-drop 2 i p)

-- ## A byte of the plain text

module _ (b : ℕ) (bs : List ℕ) where
  pub step_left : (c : Bool) (n : ℕ) → 0 < n → step_of c n b bs ≡ step 0x20 false (n - 1)
  unfolding step_of
  step_left c zero h = absurd (omega arith)
  step_left c (suc n) h = let z : suc n - 1 ≡ n = omega arith in rw z

  pub step_begun : (c : Bool) (n : ℕ) → n ≤ 0 → c ≡ false → step_of c n b bs ≡ begun b bs
  unfolding step_of
  step_begun c n h e = let z : n ≡ 0 = omega arith in rw (z, e)

  pub step_line : (c : Bool) (n : ℕ) → n ≤ 0 → c ≡ true → b ≡ 0x0a → step_of c n b bs ≡ step 0x0a false 0
  unfolding step_of
  step_line c n h e f = let z : n ≡ 0 = omega arith in rw (z, e, eq-eqb b 0x0a f)

  pub step_comment : (c : Bool) (n : ℕ) → n ≤ 0 → c ≡ true → (b ≡ 0x0a → ⊥) → step_of c n b bs ≡ step 0x20 true 0
  unfolding step_of
  step_comment c n h e f = let z : n ≡ 0 = omega arith in rw (z, e, ne_eqb b 0x0a f)

-- ## The plain text, filled from the front

module _ (t o : List ℕ) (i : ℕ) (c : Bool) (n : ℕ) (l : length o ≡ length t) where
  pub plain_more : (s : Step) → i < length t → s ≡ step_of c n (get_or t i 0) (drop (i + 1) t) →
      take (i + 1) (set o i s.byte) ++ plain_by s.comment s.left (drop (i + 1) t) ≡ take i o ++ plain_by c n (drop i t)
  unfolding plain_by
  plain_more s h e = rw (front t i h, ← e, add-one i, take-suc-set o i s.byte (omega arith)) (append_assoc (take i o) (s.byte ∷ []) _)

  pub plain_all : i ≡ length t → take i o ++ plain_by c n (drop i t) ≡ o
  unfolding plain_by
  plain_all h = rw (drop_of_length-le t {i = i} (omega arith), take_all i o (omega arith)) (append-nil o)
