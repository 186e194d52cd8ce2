-- Words that are written out, as lists of bytes.
use Rattle.std.specs.Prelude.{◌+◌, ◌-◌, ◌<◌, ◌∷◌, ◌++◌, ◌&&◌, ◌≡◌}
use Rattle.std.specs.Cmp.Lexicographic.{pointwise}
use Rattle.common.specs.Words.{ℕ, zero, suc, Bool, true, false, cond, List, [], refl, eqb, eq-eqb, ne_eqb, eqb-true, length, get_or}
use Rattle.common.specs.Stores.{part, part_cons}
use Prim.Native.String.{String, len, char_at}
use Prim.Native.Char.{code}

abbrev pub letters_by : String → ℕ → ℕ → List ℕ
letters_by s zero i = []
letters_by s (suc n) i = code (char_at s i) ∷ letters_by s n (suc i)

-- the bytes of a text that is written out
abbrev pub letters : String → List ℕ
letters s = letters_by s (len s) 0

-- the words of a text, one blank between two; w is what stands of the first already
unfoldable pub words_by : List ℕ → List ℕ → List (List ℕ)
words_by w [] = w ∷ []
words_by w (b ∷ bs) = let new = w ∷ words_by [] bs in let on = words_by (w ++ (b ∷ [])) bs in cond (eqb b 0x20) new on

-- whether two words are one
unfoldable pub same : List ℕ → List ℕ → Bool
same [] [] = true
same [] (c ∷ cs) = false
same (b ∷ bs) [] = false
same (b ∷ bs) (c ∷ cs) = cond (eqb b c) (same bs cs) false

-- the same as the library says of two lists
pub same_pointwise : (v w : List ℕ) → pointwise eqb v w ≡ same v w
unfolding same
same_pointwise [] [] = refl
same_pointwise [] (c ∷ w) = refl
same_pointwise (b ∷ v) [] = refl
same_pointwise (b ∷ v) (c ∷ w) = go (eqb b c) (same_pointwise v w)
  where
    go : (t : Bool) → pointwise eqb v w ≡ same v w → (t && pointwise eqb v w) ≡ cond t (same v w) false
    go true e = e
    go false e = refl

-- two parts are compared by their first bytes and what follows them
module _ (a b : List ℕ) (p q n : ℕ) (some : 0 < n) (l : p < length a) (m : q < length b) where
  pub same_differ : (get_or a p 0 ≡ get_or b q 0 → ⊥) → same (part a p n) (part b q n) ≡ false
  unfolding same
  same_differ h = rw (part_cons a p n some l, part_cons b q n some m, ne_eqb _ _ h)

  pub same_more : get_or a p 0 ≡ get_or b q 0 → same (part a (p + 1) (n - 1)) (part b (q + 1) (n - 1)) ≡ same (part a p n) (part b q n)
  unfolding same
  same_more h = rw (part_cons a p n some l, part_cons b q n some m, eq-eqb _ _ h)

pub same_refl : (w : List ℕ) → same w w ≡ true
unfolding same
same_refl [] = refl
same_refl (b ∷ w) = rw (eq-eqb b b refl) (same_refl w)

pub same_eq : (v w : List ℕ) → same v w ≡ true → v ≡ w
unfolding same
same_eq [] [] h = refl
same_eq [] (c ∷ w) h = cc
same_eq (b ∷ v) [] h = cc
same_eq (b ∷ v) (c ∷ w) h = go (eqb b c) refl h (same_eq v w)
  where
    go : (t : Bool) → eqb b c ≡ t → cond t (same v w) false ≡ true → (same v w ≡ true → v ≡ w) → b ∷ v ≡ c ∷ w
    go true e h f = let x : b ≡ c = eqb-true b c e in let y : v ≡ w = f h in cc
    go false e h f = cc
