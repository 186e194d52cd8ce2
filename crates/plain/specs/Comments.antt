-- Comments do not count: a text whose comments are overwritten by blanks gives the same plain text.
use Rattle.std.specs.Prelude.{◌+◌, ◌-◌, ◌<◌, ◌≤◌, ◌∷◌, ◌⊎◌, ◌≡◌}
use Rattle.common.specs.Words.{ℕ, zero, suc, arith, Bool, true, false, cond, List, [], inl, inr, ⊎_elim, refl, sym, ap, ◌∙◌, eqb, length}
use Rattle.common.specs.Words.{get_or, drop, eqb-true, eq-zero-or-pos}
use Rattle.common.specs.Tests.{clash, both}
use Rattle.plain.specs.Plain.{lower, two, three, string_by, close_by, annex_rest, brace, begun, step_of, plain_by, mark_rest, plain_of}
use Rattle.plain.specs.Begun.{Begins, begins, begun_comment, begun_quote, begun_annex, begun_other, begun_space, begun_line}

-- a byte behind which the text stands in a comment is one of it, from the first hyphen to the last byte before the LF; any other is kept
unfoldable pub blanked_by : Bool → ℕ → List ℕ → List ℕ
blanked_by comment n [] = []
blanked_by comment n (b ∷ bs) = let s = step_of comment n b bs in cond s.comment 0x20 b ∷ blanked_by s.comment s.left bs

-- the text with each comment overwritten by blanks
unfoldable pub blanked : List ℕ → List ℕ
blanked t = blanked_by false (mark_rest t) t

blanked_length_by : (c : Bool) (n : ℕ) (t : List ℕ) → length (blanked_by c n t) ≡ length t
unfolding blanked_by
blanked_length_by c n [] = refl
blanked_length_by c n (b ∷ bs) = let s = step_of c n b bs in ap suc (blanked_length_by s.comment s.left bs)

pub blanked_length : (t : List ℕ) → length (blanked t) ≡ length t
unfolding blanked
blanked_length t = blanked_length_by false (mark_rest t) t

-- ## Bytes

-- each byte is a blank or kept
at_blanked : (c : Bool) (n : ℕ) (bs : List ℕ) (i : ℕ) →
    (get_or (blanked_by c n bs) i 0 ≡ 0x20) ⊎ (get_or (blanked_by c n bs) i 0 ≡ get_or bs i 0)
unfolding blanked_by
at_blanked c n [] i = inr refl
at_blanked c n (b ∷ bs) zero = go (step_of c n b bs).comment
  where
    go : (t : Bool) → (cond t 0x20 b ≡ 0x20) ⊎ (cond t 0x20 b ≡ b)
    go true = inl refl
    go false = inr refl
at_blanked c n (b ∷ bs) (suc i) = let s = step_of c n b bs in at_blanked s.comment s.left bs i

-- the bytes of a string, an annex or the mark are kept
kept_at : (n : ℕ) (bs : List ℕ) (i : ℕ) → i < n → get_or (blanked_by false n bs) i 0 ≡ get_or bs i 0
unfolding blanked_by step_of
kept_at zero bs i h = absurd (omega arith)
kept_at (suc n) [] i h = refl
kept_at (suc n) (b ∷ bs) zero h = refl
kept_at (suc n) (b ∷ bs) (suc i) h = kept_at n bs i (omega arith)

-- what is told of bytes that are no blanks was so before
module _ (c : Bool) (n : ℕ) (bs : List ℕ) where
  test_blanked : (i k : ℕ) → eqb 0x20 k ≡ false → eqb (get_or (blanked_by c n bs) i 0) k ≡ true → eqb (get_or bs i 0) k ≡ true
  test_blanked i k f e =
      ⊎_elim (λ (x : get_or (blanked_by c n bs) i 0 ≡ 0x20). absurd (clash (rw x at e) f))
      (λ (x : get_or (blanked_by c n bs) i 0 ≡ get_or bs i 0). rw x at e)
      (at_blanked c n bs i)

  two_blanked : (a b : ℕ) → eqb 0x20 a ≡ false → eqb 0x20 b ≡ false → two (blanked_by c n bs) a b ≡ true → two bs a b ≡ true
  unfolding two
  two_blanked a b f g e =
      let h = both (eqb (get_or (blanked_by c n bs) 0 0) a) e in
      rw (test_blanked 0 a f h.0, test_blanked 1 b g h.1)

  three_blanked : (x y z : ℕ) → eqb 0x20 x ≡ false → eqb 0x20 y ≡ false → eqb 0x20 z ≡ false →
      three (blanked_by c n bs) x y z ≡ true → three bs x y z ≡ true
  unfolding three
  three_blanked x y z f g h e =
      let k = both (two (blanked_by c n bs) x y) e in
      rw (two_blanked x y f g k.0, test_blanked 2 z h k.1)

still_false : {t : Bool} (u : Bool) → (u ≡ true → t ≡ true) → t ≡ false → u ≡ false
still_false true f e = absurd (clash (f refl) e)
still_false false f e = refl

two_kept : (n : ℕ) (bs : List ℕ) (a b : ℕ) → 2 ≤ n → two (blanked_by false n bs) a b ≡ two bs a b
unfolding two
two_kept n bs a b h = rw (kept_at n bs 0 (omega arith), kept_at n bs 1 (omega arith))

three_kept : (n : ℕ) (bs : List ℕ) (a b c : ℕ) → 3 ≤ n → three (blanked_by false n bs) a b c ≡ three bs a b c
unfolding three
three_kept n bs a b c h = rw (two_kept n bs a b (omega arith), kept_at n bs 2 (omega arith))

-- ## Annexes

-- where nothing closes an annex, blanks do not either
close_none : (n : ℕ) (c : Bool) (m : ℕ) (bs : List ℕ) → close_by n bs ≡ 0 → close_by n (blanked_by c m bs) ≡ 0
unfolding close_by blanked_by
close_none n c m [] e = refl
close_none n c m (b ∷ bs) e =
    let s = step_of c m b bs in
    go (three (b ∷ bs) 0x2a 0x2a 0x7d) (three (blanked_by c m (b ∷ bs)) 0x2a 0x2a 0x7d)
    (three_blanked c m (b ∷ bs) 0x2a 0x2a 0x7d refl refl refl) e
    (close_none (n + 1) s.comment s.left bs)
  where
    go : (t u : Bool) {k j : ℕ} → (u ≡ true → t ≡ true) → cond t (n + 3) k ≡ 0 → (k ≡ 0 → j ≡ 0) → cond u (n + 3) j ≡ 0
    go true u f e r = absurd (omega arith)
    go false true f e r = absurd (clash (f refl) refl)
    go false false f e r = r e

-- what closes one stands three bytes on at least
close_far : (n : ℕ) (bs : List ℕ) → 0 < close_by n bs → n + 3 ≤ close_by n bs
unfolding close_by
close_far n [] h = absurd (omega arith)
close_far n (b ∷ bs) h = go (three (b ∷ bs) 0x2a 0x2a 0x7d) h (close_far (n + 1) bs)
  where
    go : (t : Bool) {k : ℕ} → 0 < cond t (n + 3) k → (0 < k → n + 1 + 3 ≤ k) → n + 3 ≤ cond t (n + 3) k
    go true h f = omega arith
    go false h f = omega (arith, f h)

-- where something closes one, all up to there is kept
close_kept : (n : ℕ) (bs : List ℕ) (k : ℕ) → close_by n bs ≡ k → 0 < k → close_by n (blanked_by false (k - n) bs) ≡ k
unfolding close_by blanked_by step_of
close_kept n [] k e h = absurd (omega arith)
close_kept n (b ∷ bs) k e h =
    let far : n + 3 ≤ k = rw e at (close_far n (b ∷ bs) (rw e h)) in
    let z : k - n ≡ suc (k - (n + 1)) = omega arith in
    let same = three_kept (k - n) (b ∷ bs) 0x2a 0x2a 0x7d (omega arith) in
    rw (z, rw z at same) (go (three (b ∷ bs) 0x2a 0x2a 0x7d) e (close_kept (n + 1) bs k))
  where
    go : (t : Bool) {i j : ℕ} → cond t (n + 3) i ≡ k → (i ≡ k → 0 < k → j ≡ k) → cond t (n + 3) j ≡ k
    go true e r = e
    go false e r = r e h

-- what is no annex is none still
behind_none : (c : Bool) (m : ℕ) (bs : List ℕ) → close_by 2 (drop 2 bs) ≡ 0 → close_by 2 (drop 2 (blanked_by c m bs)) ≡ 0
unfolding blanked_by
behind_none c m [] e = e
behind_none c m (a ∷ []) e = e
behind_none c m (a ∷ b ∷ bs) e =
    let s = step_of c m a (b ∷ bs) in
    let r = step_of s.comment s.left b bs in
    close_none 2 r.comment r.left bs e

annex_none : (c : Bool) (m : ℕ) (bs : List ℕ) → annex_rest bs ≡ 0 → annex_rest (blanked_by c m bs) ≡ 0
unfolding annex_rest
annex_none c m bs e = go (two bs 0x2a 0x2a) (two (blanked_by c m bs) 0x2a 0x2a) (two_blanked c m bs 0x2a 0x2a refl refl) e (behind_none c m bs)
  where
    go : (t u : Bool) {k j : ℕ} → (u ≡ true → t ≡ true) → cond t k 0 ≡ 0 → (k ≡ 0 → j ≡ 0) → cond u j 0 ≡ 0
    go t false f e r = refl
    go true true f e r = r e
    go false true f e r = absurd (clash (f refl) refl)

-- an annex is one still
behind_kept : (n : ℕ) (bs : List ℕ) → drop 2 (blanked_by false (suc (suc n)) bs) ≡ blanked_by false n (drop 2 bs)
unfolding blanked_by step_of
behind_kept n [] = refl
behind_kept n (a ∷ []) = refl
behind_kept n (a ∷ b ∷ bs) = refl

annex_kept : (bs : List ℕ) (k : ℕ) → annex_rest bs ≡ k → annex_rest (blanked_by false k bs) ≡ k
unfolding annex_rest
annex_kept bs zero e = annex_none false zero bs e
annex_kept bs (suc k) e = go (two bs 0x2a 0x2a) refl e
  where
    go : (t : Bool) → two bs 0x2a 0x2a ≡ t → cond t (close_by 2 (drop 2 bs)) 0 ≡ suc k → annex_rest (blanked_by false (suc k) bs) ≡ suc k
    go true f e =
        let far : 5 ≤ suc k = rw e at (close_far 2 (drop 2 bs) (rw e (omega arith))) in
        let z : suc k ≡ suc (suc (suc k - 2)) = omega arith in
        rw (two_kept (suc k) bs 0x2a 0x2a (omega arith), f, ap (λ (n : ℕ). drop 2 (blanked_by false n bs)) z ∙ behind_kept (suc k - 2) bs)
        (close_kept 2 (drop 2 bs) (suc k) e (omega arith))
    go false f e = absurd (omega arith)

-- ## Strings

-- how a string is looked for: to the text's end, to a line's end, to a quote that is not doubled
data Scan : List ℕ → Type 0 where
  ended : Scan []
  line : (bs : List ℕ) → Scan (0x0a ∷ bs)
  single : (bs : List ℕ) → eqb (get_or bs 0 0) 0x22 ≡ false → Scan (0x22 ∷ bs)
  doubled : {bs : List ℕ} → Scan bs → Scan (0x22 ∷ 0x22 ∷ bs)
  byte : (b : ℕ) {bs : List ℕ} → eqb b 0x0a ≡ false → eqb b 0x22 ≡ false → Scan bs → Scan (b ∷ bs)

scan : (bs : List ℕ) → Scan bs
scan [] = ended
scan (b ∷ []) = one (eqb b 0x0a) (eqb b 0x22) refl refl
  where
    one : (t u : Bool) → eqb b 0x0a ≡ t → eqb b 0x22 ≡ u → Scan (b ∷ [])
    one true u e f = rw (eqb-true b 0x0a e) (line [])
    one false true e f = rw (eqb-true b 0x22 f) (single [] refl)
    one false false e f = byte b e f ended
scan (b ∷ c ∷ bs) = more (eqb b 0x0a) (eqb b 0x22) (eqb c 0x22) refl refl refl (scan bs) (scan (c ∷ bs))
  where
    more : (t u v : Bool) → eqb b 0x0a ≡ t → eqb b 0x22 ≡ u → eqb c 0x22 ≡ v → Scan bs → Scan (c ∷ bs) → Scan (b ∷ c ∷ bs)
    more true u v e f g two one = rw (eqb-true b 0x0a e) (line (c ∷ bs))
    more false true true e f g two one = rw (eqb-true b 0x22 f, eqb-true c 0x22 g) (doubled two)
    more false true false e f g two one = rw (eqb-true b 0x22 f) (single (c ∷ bs) g)
    more false false v e f g two one = byte b e f one

-- what each of them says
string_ended : (n z : ℕ) → string_by n z [] ≡ z
unfolding string_by
string_ended n z = refl

string_line : (n z : ℕ) (bs : List ℕ) → string_by n z (0x0a ∷ bs) ≡ z
unfolding string_by
string_line n z [] = refl
string_line n z (b ∷ bs) = refl

string_quote : (n z : ℕ) (bs : List ℕ) → eqb (get_or bs 0 0) 0x22 ≡ false → string_by n z (0x22 ∷ bs) ≡ n + 1
unfolding string_by
string_quote n z [] e = refl
string_quote n z (b ∷ bs) e = rw e

string_doubled : (n z : ℕ) (bs : List ℕ) → string_by n z (0x22 ∷ 0x22 ∷ bs) ≡ string_by (n + 2) (n + 1) bs
unfolding string_by
string_doubled n z bs = refl

string_other : (n z b : ℕ) (bs : List ℕ) → eqb b 0x0a ≡ false → eqb b 0x22 ≡ false → string_by n z (b ∷ bs) ≡ string_by (n + 1) z bs
unfolding string_by
string_other n z b [] e f = rw f
string_other n z b (c ∷ bs) e f = rw (e, f)

-- it ends where it had ended, or behind what was passed
string_far : {bs : List ℕ} (n z : ℕ) → Scan bs → (string_by n z bs ≡ z) ⊎ (n < string_by n z bs)
string_far n z ended = inl (string_ended n z)
string_far n z (line bs) = inl (string_line n z bs)
string_far n z (single bs e) = inr (omega (arith, string_quote n z bs e))
string_far n z (doubled {bs = bs} v) =
    inr (rw (string_doubled n z bs) (⊎_elim (λ (e : string_by (n + 2) (n + 1) bs ≡ n + 1). omega arith)
    (λ (l : n + 2 < string_by (n + 2) (n + 1) bs). omega arith)
    (string_far (n + 2) (n + 1) v)))
string_far n z (byte b {bs = bs} e f v) =
    ⊎_elim (λ (g : string_by (n + 1) z bs ≡ z). inl (string_other n z b bs e f ∙ g))
    (λ (l : n + 1 < string_by (n + 1) z bs). inr (rw (string_other n z b bs e f) (omega arith))) (string_far (n + 1) z v)

-- a line's end is kept, and a quote outside of comments
line_kept : (c : Bool) (m : ℕ) (bs : List ℕ) → blanked_by c m (0x0a ∷ bs) ≡ 0x0a ∷ blanked_by false (step_of c m 0x0a bs).left bs
unfolding blanked_by step_of begun two
line_kept c (suc m) bs = refl
line_kept true zero bs = refl
line_kept false zero bs = refl

quote_kept : (m : ℕ) (bs : List ℕ) → blanked_by false m (0x22 ∷ bs) ≡ 0x22 ∷ blanked_by false (step_of false m 0x22 bs).left bs
unfolding blanked_by step_of begun two
quote_kept (suc m) bs = refl
quote_kept zero bs = refl

-- where no quote follows in the line, none does still
string_open : {bs : List ℕ} (n z : ℕ) (c : Bool) (m : ℕ) → Scan bs → z ≤ n →
    string_by n z bs ≡ z → string_by n z (blanked_by c m bs) ≡ z
unfolding blanked_by
string_open n z c m ended l e = string_ended n z
string_open n z c m (line bs) l e = rw (line_kept c m bs) (string_line n z _)
string_open n z c m (single bs f) l e = absurd (omega (arith, string_quote n z bs f))
string_open n z c m (doubled {bs = bs} v) l e =
    absurd (⊎_elim (λ (g : string_by (n + 2) (n + 1) bs ≡ n + 1). omega (arith, string_doubled n z bs))
    (λ (g : n + 2 < string_by (n + 2) (n + 1) bs). omega (arith, string_doubled n z bs))
    (string_far (n + 2) (n + 1) v))
string_open n z c m (byte b {bs = bs} f g v) l e =
    let s = step_of c m b bs in
    string_other n z (cond s.comment 0x20 b) _ (pick s.comment 0x0a refl f) (pick s.comment 0x22 refl g)
    ∙ string_open (n + 1) z s.comment s.left v (omega arith) (rw (string_other n z b bs f g) at e)
  where
    pick : (t : Bool) (k : ℕ) → eqb 0x20 k ≡ false → eqb b k ≡ false → eqb (cond t 0x20 b) k ≡ false
    pick true k e f = e
    pick false k e f = f

-- and a string is one still
string_kept : {bs : List ℕ} (n z : ℕ) → Scan bs → (k : ℕ) → string_by n z bs ≡ k →
    z ≤ n → z < k → string_by n z (blanked_by false (k - n) bs) ≡ k
unfolding blanked_by step_of
string_kept n z ended k e l h = absurd (omega (arith, string_ended n z))
string_kept n z (line bs) k e l h = absurd (omega (arith, string_line n z bs))
string_kept n z (single bs f) k e l h =
    let x : k ≡ n + 1 = sym e ∙ string_quote n z bs f in
    let y : k - n ≡ 1 = omega arith in
    rw y (string_quote n z (blanked_by false 0 bs) (still_false _ (test_blanked false 0 bs 0 0x22 refl) f) ∙ sym x)
string_kept n z (doubled {bs = bs} v) k e l h =
    let x : string_by (n + 2) (n + 1) bs ≡ k = rw (string_doubled n z bs) at e in
    ⊎_elim (λ (g : string_by (n + 2) (n + 1) bs ≡ n + 1).
    let q : k ≡ n + 1 = sym x ∙ g in
    let y : k - n ≡ suc 0 = omega arith in
    rw (y, quote_kept 0 bs, string_doubled) (string_open (n + 2) (n + 1) false (step_of false 0 0x22 bs).left v (omega arith) g ∙ sym q))
    (λ (g : n + 2 < string_by (n + 2) (n + 1) bs).
    let y : k - n ≡ suc (suc (k - (n + 2))) = omega arith in
    rw (y, string_doubled) (string_kept (n + 2) (n + 1) v k x (omega arith) (omega arith))) (string_far (n + 2) (n + 1) v)
string_kept n z (byte b {bs = bs} f g v) k e l h =
    let x : string_by (n + 1) z bs ≡ k = rw (string_other n z b bs f g) at e in
    let far : n + 1 < k = ⊎_elim (λ (q : string_by (n + 1) z bs ≡ z). absurd (omega arith))
    (λ (q : n + 1 < string_by (n + 1) z bs). omega arith) (string_far (n + 1) z v) in
    let y : k - n ≡ suc (k - (n + 1)) = omega arith in
    rw y (string_other n z b _ f g ∙ string_kept (n + 1) z v k x (omega arith) h)

string_same : (bs : List ℕ) → string_by 0 0 (blanked_by false (string_by 0 0 bs) bs) ≡ string_by 0 0 bs
string_same bs =
    ⊎_elim (λ (y : string_by 0 0 bs ≡ 0). rw y (string_open 0 0 false 0 (scan bs) (omega arith) y))
    (λ (h : 0 < string_by 0 0 bs). let y : string_by 0 0 bs - 0 ≡ string_by 0 0 bs = omega arith in
    rw y at (string_kept 0 0 (scan bs) (string_by 0 0 bs) refl (omega arith) h)) (eq-zero-or-pos (string_by 0 0 bs))

-- ## The plain text

-- no comment begins where none began
hyphens_blanked : (b : ℕ) (c : Bool) (n : ℕ) (bs : List ℕ) →
    two (b ∷ blanked_by c n bs) 0x2d 0x2d ≡ true → two (b ∷ bs) 0x2d 0x2d ≡ true
unfolding two
hyphens_blanked b c n bs e = let h = both (eqb b 0x2d) e in rw (h.0, test_blanked c n bs 0 0x2d refl h.1)

-- a byte outside of comments, strings and annexes; what follows it is told by the same law
begun_blanked : (b : ℕ) (bs : List ℕ) → Begins b bs → ((c : Bool) (n : ℕ) → plain_by false n (blanked_by c n bs) ≡ plain_by c n bs) →
    plain_by false 0 (blanked_by false 0 (b ∷ bs)) ≡ plain_by false 0 (b ∷ bs)
unfolding plain_by blanked_by step_of
begun_blanked b bs (Begins.comment e) r = rw (begun_comment b bs e, begun_space) (ap (λ (l : List ℕ). 0x20 ∷ l) (r true 0))
begun_blanked b bs (Begins.quote e) r =
    rw (e, begun_quote bs, begun_quote (blanked_by false (string_by 0 0 bs) bs), string_same bs)
    (ap (λ (l : List ℕ). 0x22 ∷ l) (r false (string_by 0 0 bs)))
begun_blanked b bs (Begins.annex e) r =
    rw (e, begun_annex bs, begun_annex (blanked_by false (annex_rest bs) bs), annex_kept bs (annex_rest bs) refl)
    (ap (λ (l : List ℕ). brace (annex_rest bs) ∷ l) (r false (annex_rest bs)))
begun_blanked b bs (Begins.other e f g) r =
    rw (begun_other b bs e f g, begun_other b (blanked_by false 0 bs) (still_false _ (hyphens_blanked b false 0 bs) e) f g)
    (ap (λ (l : List ℕ). lower b ∷ l) (r false 0))

-- a comment's bytes are blanks in both
comment_blanked : (b : ℕ) (bs : List ℕ) → ((c : Bool) (n : ℕ) → plain_by false n (blanked_by c n bs) ≡ plain_by c n bs) →
    plain_by false 0 (blanked_by true 0 (b ∷ bs)) ≡ plain_by true 0 (b ∷ bs)
unfolding plain_by blanked_by step_of
comment_blanked b bs r = go (eqb b 0x0a) refl
  where
    go : (t : Bool) → eqb b 0x0a ≡ t → plain_by false 0 (blanked_by true 0 (b ∷ bs)) ≡ plain_by true 0 (b ∷ bs)
    go true e = rw (eqb-true b 0x0a e, begun_line) (ap (λ (l : List ℕ). 0x0a ∷ l) (r false 0))
    go false e = rw (e, begun_space) (ap (λ (l : List ℕ). 0x20 ∷ l) (r true 0))

comments_by : (c : Bool) (n : ℕ) (t : List ℕ) → plain_by false n (blanked_by c n t) ≡ plain_by c n t
unfolding plain_by blanked_by step_of
comments_by c n [] = refl
comments_by c (suc n) (b ∷ bs) = ap (λ (l : List ℕ). 0x20 ∷ l) (comments_by false n bs)
comments_by true zero (b ∷ bs) = comment_blanked b bs (λ c n. comments_by c n bs)
comments_by false zero (b ∷ bs) = begun_blanked b bs (begins b bs) (λ c n. comments_by c n bs)

mark_blanked : (t : List ℕ) → mark_rest (blanked t) ≡ mark_rest t
unfolding mark_rest blanked
mark_blanked t = go (three t 0xef 0xbb 0xbf) refl
  where
    go : (u : Bool) → three t 0xef 0xbb 0xbf ≡ u →
        ◌≡◌ {A = ℕ} (cond (three (blanked_by false (cond u 3 0) t) 0xef 0xbb 0xbf) 3 0) (cond u 3 0)
    go true e = rw (three_kept 3 t 0xef 0xbb 0xbf (omega arith), e)
    go false e = rw (still_false _ (three_blanked false 0 t 0xef 0xbb 0xbf refl refl refl) e)

pub comments_blank : (t : List ℕ) → plain_of (blanked t) ≡ plain_of t
unfolding plain_of
comments_blank t = rw (mark_blanked t) (unfold blanked in comments_by false (mark_rest t) t)
