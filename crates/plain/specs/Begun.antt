-- What a byte outside of comments, strings and annexes begins, and where the plain text has blanks.
use Rattle.std.specs.Prelude.{◌+◌, ◌<◌, ◌≤◌, ◌&&◌, ◌||◌, ◌∷◌, ◌≡◌}
use Rattle.common.specs.Words.{ℕ, zero, suc, arith, Bool, true, false, cond, List, ⊎_elim, refl, eqb, leb, eqb-true, leb-true}
use Rattle.common.specs.Tests.{clash, both}
use Rattle.plain.specs.Plain.{lower, two, string_by, annex_rest, step, brace, begun, step_of}
use Rattle.plain.specs.Case.{lower_cases}

-- what a byte begins
pub data Begins (b : ℕ) (bs : List ℕ) : Type 0 where
  comment : two (b ∷ bs) 0x2d 0x2d ≡ true → Begins b bs
  quote : b ≡ 0x22 → Begins b bs
  annex : b ≡ 0x7b → Begins b bs
  other : two (b ∷ bs) 0x2d 0x2d ≡ false → eqb b 0x22 ≡ false → eqb b 0x7b ≡ false → Begins b bs

pub begins : (b : ℕ) (bs : List ℕ) → Begins b bs
begins b bs = go (two (b ∷ bs) 0x2d 0x2d) (eqb b 0x22) (eqb b 0x7b) refl refl refl
  where
    go : (t u v : Bool) → two (b ∷ bs) 0x2d 0x2d ≡ t → eqb b 0x22 ≡ u → eqb b 0x7b ≡ v → Begins b bs
    go true u v e f g = comment e
    go false true v e f g = quote (eqb-true b 0x22 f)
    go false false true e f g = annex (eqb-true b 0x7b g)
    go false false false e f g = other e f g

-- the byte of the plain text in each case, and what follows it
pub begun_comment : (b : ℕ) (bs : List ℕ) → two (b ∷ bs) 0x2d 0x2d ≡ true → begun b bs ≡ step 0x20 true 0
unfolding begun
begun_comment b bs e = rw e

pub begun_quote : (bs : List ℕ) → begun 0x22 bs ≡ step 0x22 false (string_by 0 0 bs)
unfolding begun two
begun_quote bs = refl

pub begun_annex : (bs : List ℕ) → begun 0x7b bs ≡ step (brace (annex_rest bs)) false (annex_rest bs)
unfolding begun two
begun_annex bs = refl

pub begun_other : (b : ℕ) (bs : List ℕ) → two (b ∷ bs) 0x2d 0x2d ≡ false → eqb b 0x22 ≡ false → eqb b 0x7b ≡ false →
    begun b bs ≡ step (lower b) false 0
unfolding begun
begun_other b bs e f g = rw (e, f, g)

pub begun_space : (bs : List ℕ) → begun 0x20 bs ≡ step 0x20 false 0
unfolding begun two lower
begun_space bs = refl

pub begun_line : (bs : List ℕ) → begun 0x0a bs ≡ step 0x0a false 0
unfolding begun two lower
begun_line bs = refl

-- ## Blanks

-- "Blanks are space, tab, LF, VT, FF and CR"
abbrev pub is_blank : ℕ → Bool
is_blank b = eqb b 0x20 || (leb 0x09 b && leb b 0x0d)

-- a byte that the rules see as a blank: it is one, it stands in a comment, it belongs to a string, an annex or the mark, or a comment begins
pub data Hidden (c : Bool) (n b : ℕ) (bs : List ℕ) : Type 0 where
  blank : is_blank b ≡ true → Hidden c n b bs
  inside : c ≡ true → Hidden c n b bs
  belongs : 0 < n → Hidden c n b bs
  hyphens : two (b ∷ bs) 0x2d 0x2d ≡ true → Hidden c n b bs

blank_low : (b : ℕ) → is_blank b ≡ true → b ≤ 0x20
blank_low b h = go (eqb b 0x20) refl h
  where
    go : (t : Bool) → eqb b 0x20 ≡ t → (t || (leb 0x09 b && leb b 0x0d)) ≡ true → b ≤ 0x20
    go true e h = omega (arith, eqb-true b 0x20 e)
    go false e h = omega (arith, leb-true b 0x0d (both (leb 0x09 b) h).1)

lower_blank : (b : ℕ) → is_blank (lower b) ≡ true → is_blank b ≡ true
lower_blank b h =
    ⊎_elim (λ (x : (lower b ≡ b + 0x20) × (0x41 ≤ b) × (b ≤ 0x5a)). absurd (omega (arith, x, blank_low (lower b) h)))
    (λ (e : lower b ≡ b). rw e at h)
    (lower_cases b)

blank_lower : (b : ℕ) → is_blank b ≡ true → lower b ≡ b
blank_lower b h =
    ⊎_elim (λ (x : (lower b ≡ b + 0x20) × (0x41 ≤ b) × (b ≤ 0x5a)). absurd (omega (arith, x, blank_low b h)))
    (λ (e : lower b ≡ b). e)
    (lower_cases b)

brace_blank : (n : ℕ) → is_blank (brace n) ≡ true → ⊥
brace_blank n h = go (eqb n 0) h
  where
    go : (t : Bool) → is_blank (cond t 0x7b 0x41) ≡ true → ⊥
    go true h = clash h refl
    go false h = clash h refl

-- a byte of the plain text is a blank there, and nowhere else
pub hidden_blank : (c : Bool) (n b : ℕ) (bs : List ℕ) → Hidden c n b bs → is_blank (step_of c n b bs).byte ≡ true
unfolding step_of
hidden_blank c (suc n) b bs h = refl
hidden_blank true zero b bs h = go (eqb b 0x0a)
  where
    go : (t : Bool) → is_blank (cond t (step 0x0a false 0) (step 0x20 true 0)).byte ≡ true
    go true = refl
    go false = refl
hidden_blank false zero b bs (Hidden.blank h) = go (begins b bs)
  where
    go : Begins b bs → is_blank (begun b bs).byte ≡ true
    go (comment e) = rw (begun_comment b bs e)
    go (quote e) = absurd (clash (rw e at h) refl)
    go (annex e) = absurd (clash (rw e at h) refl)
    go (other e f g) = rw (begun_other b bs e f g, blank_lower b h) h
hidden_blank false zero b bs (Hidden.inside e) = absurd (clash e refl)
hidden_blank false zero b bs (Hidden.belongs h) = absurd (omega arith)
hidden_blank false zero b bs (Hidden.hyphens e) = rw (begun_comment b bs e)

pub plain_blank : (c : Bool) (n b : ℕ) (bs : List ℕ) → is_blank (step_of c n b bs).byte ≡ true → Hidden c n b bs
unfolding step_of
plain_blank c (suc n) b bs h = Hidden.belongs (omega arith)
plain_blank true zero b bs h = Hidden.inside refl
plain_blank false zero b bs h = go (begins b bs)
  where
    go : Begins b bs → Hidden false 0 b bs
    go (comment e) = Hidden.hyphens e
    go (quote e) = absurd (clash (rw (e, begun_quote bs) at h) refl)
    go (annex e) = absurd (brace_blank (annex_rest bs) (rw (e, begun_annex bs) at h))
    go (other e f g) = Hidden.blank (lower_blank b (rw (begun_other b bs e f g) at h))
