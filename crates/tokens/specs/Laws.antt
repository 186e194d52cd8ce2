-- Laws of tokens: how a run goes on, that a token has a byte at least, and that the tokens behind a token are those from its end on.
use Rattle.std.specs.Prelude.{◌+◌, ◌-◌, ◌%◌, ◌<◌, ◌≤◌, ◌&&◌, ◌∷◌, ◌≡◌}
use Rattle.common.specs.Words.{ℕ, zero, suc, arith, add-one, Bool, true, false, true≢false, cond, List, [], refl, sym, ap, ◌∙◌, eqb, leb}
use Rattle.common.specs.Words.{length, take, drop, get_or, le-leb, lt-leb, eq-eqb, ne_eqb, eqb-true, drop-cons, drop-drop, drop_of_length-le}
use Rattle.common.specs.Words.{length-drop, get_or-drop, get_or-eq_default, ⊎_elim}
use Rattle.std.proofs.Math.Bool.{and-false}
use Rattle.common.specs.Tests.{lt_or_le, and_left, and_right}
use Rattle.common.specs.Stores.{part}
use Rattle.tokens.specs.declared.Shape.{Shape}
use Rattle.tokens.specs.Spots.{Stands, behind}
use Rattle.tokens.specs.Tokens.{Token, token, sort_of, run, blank, letter, digit, underscore, shape, word_shape, number_width, one_of, sign_shape}
use Rattle.tokens.specs.Tokens.{shape_of, none, tokens_by, from}
use Rattle.words.specs.Words.{kind_of}
use Rattle.words.specs.Found.{kind_there}
use Rattle.words.specs.Same.{same_kind, kind_apart}
use Rattle.words.specs.declared.kinds.Kind.{Kind}
use Rattle.words.specs.Kinds.{ENDED, NUMBER, BECOMES, ADDS, ARROW, DELAYING, BOTH_WAYS, SCOPE, DOTS}

-- what holds of both holds of the one that a test picks
pub either : {A : Type 0} (P : A → Type 0) (b : Bool) {x y : A} → P x → P y → P (cond b x y)
either P true p q = p
either P false p q = q

-- the same where each may use how the test came out
pub cases : {A : Type 0} (P : A → Type 0) (b : Bool) {x y : A} → (b ≡ true → P x) → (b ≡ false → P y) → P (cond b x y)
cases P true p q = p refl
cases P false p q = q refl

-- ## Runs

pub run_le : (low high : ℕ) (bs : List ℕ) → run low high bs ≤ length bs
unfolding run
run_le low high [] = omega arith
run_le low high (b ∷ bs) =
    either (λ (n : ℕ). n ≤ length (b ∷ bs)) (leb low (sort_of b) && leb (sort_of b) high) (omega (arith, run_le low high bs)) (omega arith)

module _ (p : List ℕ) (low high i : ℕ) where
  pub run_none : length p ≤ i → run low high (drop i p) ≡ 0
  unfolding run
  run_none h = rw (drop_of_length-le p {i = i} h)

  pub run_below : i < length p → sort_of (get_or p i 0) < low → run low high (drop i p) ≡ 0
  unfolding run
  run_below h l = rw (drop-cons p i 0 h, lt-leb low (sort_of (get_or p i 0)) l)

  pub run_above : i < length p → low ≤ sort_of (get_or p i 0) → high < sort_of (get_or p i 0) → run low high (drop i p) ≡ 0
  unfolding run
  run_above h l g = rw (drop-cons p i 0 h, le-leb low (sort_of (get_or p i 0)) l, lt-leb (sort_of (get_or p i 0)) high g)

  pub run_more : i < length p → low ≤ sort_of (get_or p i 0) → sort_of (get_or p i 0) ≤ high →
      run low high (drop i p) ≡ suc (run low high (drop (i + 1) p))
  unfolding run
  run_more h l g = rw (drop-cons p i 0 h, le-leb low (sort_of (get_or p i 0)) l, le-leb (sort_of (get_or p i 0)) high g, add-one i)

-- a run ends within the text
pub past_le : (p : List ℕ) (low high i : ℕ) → i ≤ length p → i + run low high (drop i p) ≤ length p
past_le p low high i h = omega (arith, simp length-drop at (run_le low high (drop i p)))

-- the first byte of a run is of its sorts
run_first : (low high : ℕ) (bs : List ℕ) → none bs ≡ false → low ≤ sort_of (get_or bs 0 0) →
    sort_of (get_or bs 0 0) ≤ high → 0 < run low high bs
unfolding run
run_first low high [] n l h = absurd (true≢false n)
run_first low high (b ∷ bs) n l h = rw (le-leb low (sort_of b) l, le-leb (sort_of b) high h) (omega arith)

-- ## Widths

number_run : (bs : List ℕ) → run underscore digit bs ≤ number_width bs
unfolding number_width
number_run bs =
    let n = run underscore digit bs in
    either (λ (w : ℕ). n ≤ w) (eqb (get_or bs n 0) 0x2e && eqb (sort_of (get_or bs (n + 1) 0)) digit) (omega arith) (omega arith)

sign_width : (a b c : ℕ) → 0 < (sign_shape a b c).width
unfolding sign_shape
sign_width a b c =
    let P : Shape → Type 0 = λ (s : Shape). 0 < s.width in
    let one : (t : Bool) (k : Kind) (w : ℕ) → 0 < w → P (one_of t k w a) =
    λ (t : Bool) (k : Kind) (w : ℕ) (h : 0 < w). either P t {x = shape k w} {y = shape (Kind.Sign (a % 256)) 1} h (omega arith) in
    either P (eqb a 0x3d) (one (eqb b 0x3e) BECOMES 2 (omega arith))
    (either P (eqb a 0x2b) (one (eqb b 0x3d && eqb c 0x3e) ADDS 3 (omega arith))
    (either P (eqb a 0x2d) (either P (eqb b 0x3e && eqb c 0x3e) {x = shape DELAYING 3} (omega arith) (one (eqb b 0x3e) ARROW 2 (omega arith)))
    (either P (eqb a 0x3c) (one (eqb b 0x2d && eqb c 0x3e) BOTH_WAYS 3 (omega arith))
    (either P (eqb a 0x3a) (one (eqb b 0x3a) SCOPE 2 (omega arith)) (one (eqb a 0x2e && eqb b 0x2e) DOTS 2 (omega arith))))))

-- a token has a byte at least
pub shape_width : (bs : List ℕ) → none bs ≡ false → 0 < (shape_of bs).width
unfolding shape_of word_shape
shape_width bs h =
    let P : Shape → Type 0 = λ (s : Shape). 0 < s.width in
    cases P (eqb (sort_of (get_or bs 0 0)) letter)
    (λ e. let x : sort_of (get_or bs 0 0) ≡ letter = eqb-true _ _ e in run_first letter digit bs h (omega arith) (omega arith))
    (λ _. cases P (eqb (sort_of (get_or bs 0 0)) digit)
    (λ e. let x : sort_of (get_or bs 0 0) ≡ digit = eqb-true _ _ e in
    omega (arith, run_first underscore digit bs h (omega arith) (omega arith), number_run bs))
    (λ _. sign_width (get_or bs 0 0) (get_or bs 1 0) (get_or bs 2 0)))

-- a number at the code's places: e is where its first digits end
module _ (p : List ℕ) (at e : ℕ) (here : e ≡ at + run underscore digit (drop at p)) where
  behind_point : get_or (drop at p) (run underscore digit (drop at p) + 1) 0 ≡ get_or p (e + 1) 0
  behind_point =
      let k : at + (run underscore digit (drop at p) + 1) ≡ e + 1 = omega arith in
      get_or-drop at p (run underscore digit (drop at p) + 1) 0 ∙ ap (λ (j : ℕ). get_or p j 0) k

  pub number_plain : (get_or p e 0 ≡ 0x2e → ⊥) → e ≡ at + number_width (drop at p)
  unfolding number_width
  number_plain h = rw (get_or-drop at p (run underscore digit (drop at p)) 0, ← here, ne_eqb (get_or p e 0) 0x2e h) here

  pub number_ends : (sort_of (get_or p (e + 1) 0) ≡ digit → ⊥) → e ≡ at + number_width (drop at p)
  unfolding number_width
  number_ends h = rw (behind_point, ne_eqb (sort_of (get_or p (e + 1) 0)) digit h, and-false) here

  pub number_goes : get_or p e 0 ≡ 0x2e → sort_of (get_or p (e + 1) 0) ≡ digit →
      e + 1 + run underscore digit (drop (e + 1) p) ≡ at + number_width (drop at p)
  unfolding number_width
  number_goes h g =
      let n = run underscore digit (drop at p) in
      let k : at + (n + 1) ≡ e + 1 = omega arith in
      rw (
        behind_point,
        eq-eqb (sort_of (get_or p (e + 1) 0)) digit g,
        get_or-drop at p n 0,
        ← here,
        eq-eqb (get_or p e 0) 0x2e h,
        drop-drop (n + 1) at p,
        k,
      )
      (omega arith)

-- a token by the sort of its first byte, at the code's places
module _ (p : List ℕ) (at : ℕ) where
  byte_first : get_or (drop at p) 0 0 ≡ get_or p at 0
  byte_first = let z : at + 0 ≡ at = omega arith in get_or-drop at p 0 0 ∙ ap (λ (j : ℕ). get_or p j 0) z

  pub shape_word : (e : ℕ) → e ≡ at + run letter digit (drop at p) → sort_of (get_or p at 0) ≡ letter →
      shape (kind_of (part p at (e - at))) (e - at) ≡ shape_of (drop at p)
  unfolding shape_of word_shape
  shape_word e h g =
      let n : run letter digit (drop at p) ≡ e - at = omega arith in
      rw (byte_first, eq-eqb (sort_of (get_or p at 0)) letter g, n)

  pub shape_number : (e : ℕ) → e ≡ at + number_width (drop at p) →
      sort_of (get_or p at 0) ≡ digit → shape NUMBER (e - at) ≡ shape_of (drop at p)
  unfolding shape_of
  shape_number e h g =
      let n : number_width (drop at p) ≡ e - at = omega arith in
      rw (byte_first, g, n)

  pub shape_sign : (sort_of (get_or p at 0) ≡ letter → ⊥) → (sort_of (get_or p at 0) ≡ digit → ⊥) →
      sign_shape (get_or p at 0) (get_or p (at + 1) 0) (get_or p (at + 2) 0) ≡ shape_of (drop at p)
  unfolding shape_of
  shape_sign h g =
      rw (byte_first, ne_eqb (sort_of (get_or p at 0)) letter h, ne_eqb (sort_of (get_or p at 0)) digit g, get_or-drop at p 1 0, get_or-drop at p 2 0)

-- only a byte of the text is not 0
byte_in : (bs : List ℕ) (i b : ℕ) → eqb (get_or bs i 0) (suc b) ≡ true → i < length bs
byte_in bs i b e =
    ⊎_elim (λ (h : i < length bs). h) (λ (h : length bs ≤ i).
    absurd (omega (arith, eqb-true (get_or bs i 0) (suc b) e, get_or-eq_default bs 0 {n = i} h))) (lt_or_le i (length bs))

number_fits : (bs : List ℕ) → number_width bs ≤ length bs
unfolding number_width
number_fits bs =
    let n = run underscore digit bs in
    cases (λ (w : ℕ). w ≤ length bs) (eqb (get_or bs n 0) 0x2e && eqb (sort_of (get_or bs (n + 1) 0)) digit)
    (λ e. let l = byte_in bs n 0x2d (and_left (eqb (get_or bs n 0) 0x2e) _ e) in
    omega (arith, l, simp length-drop at (run_le underscore digit (drop (n + 1) bs))))
    (λ _. run_le underscore digit bs)

sign_fits : (bs : List ℕ) → 0 < length bs → (sign_shape (get_or bs 0 0) (get_or bs 1 0) (get_or bs 2 0)).width ≤ length bs
unfolding sign_shape
sign_fits bs h =
    let a = get_or bs 0 0 in
    let b = get_or bs 1 0 in
    let c = get_or bs 2 0 in
    let P : Shape → Type 0 = λ (s : Shape). s.width ≤ length bs in
    let one : (t : Bool) (k : Kind) (w : ℕ) → (t ≡ true → w ≤ length bs) → P (one_of t k w a) =
    λ (t : Bool) (k : Kind) (w : ℕ) (f : t ≡ true → w ≤ length bs). cases P t {x = shape k w} {y = shape (Kind.Sign (a % 256)) 1} f
    (λ _. omega arith) in
    let two : (x : ℕ) → eqb b (suc x) ≡ true → 2 ≤ length bs = λ (x : ℕ) (e : eqb b (suc x) ≡ true). byte_in bs 1 x e in
    let three : (x : ℕ) → (eqb b (suc x) && eqb c 0x3e) ≡ true → 3 ≤ length bs =
    λ (x : ℕ) (e : (eqb b (suc x) && eqb c 0x3e) ≡ true). byte_in bs 2 0x3d (and_right (eqb b (suc x)) _ e) in
    either P (eqb a 0x3d) (one (eqb b 0x3e) BECOMES 2 (two 0x3d))
    (either P (eqb a 0x2b) (one (eqb b 0x3d && eqb c 0x3e) ADDS 3 (three 0x3c))
    (either P (eqb a 0x2d) (cases P (eqb b 0x3e && eqb c 0x3e) {x = shape DELAYING 3} (three 0x3d) (λ _. one (eqb b 0x3e) ARROW 2 (two 0x3d)))
    (either P (eqb a 0x3c) (one (eqb b 0x2d && eqb c 0x3e) BOTH_WAYS 3 (three 0x2c))
    (either P (eqb a 0x3a) (one (eqb b 0x3a) SCOPE 2 (two 0x39))
    (one (eqb a 0x2e && eqb b 0x2e) DOTS 2 (λ e. two 0x2d (and_right (eqb a 0x2e) _ e)))))))

-- a token's kind is not that of the text's end
abbrev Real : Shape → Type 0
Real s = same_kind s.kind ENDED ≡ false

sign_real : (a b c : ℕ) → Real (sign_shape a b c)
unfolding sign_shape
sign_real a b c =
    let one : (t : Bool) (k : Kind) (w : ℕ) → same_kind k ENDED ≡ false → Real (one_of t k w a) =
    λ (t : Bool) (k : Kind) (w : ℕ) (h : same_kind k ENDED ≡ false).
    either Real t {x = shape k w} {y = shape (Kind.Sign (a % 256)) 1} h (ne_eqb (0x300 + a % 256) 0x100 (λ e. omega arith)) in
    either Real (eqb a 0x3d) (one (eqb b 0x3e) BECOMES 2 refl)
    (either Real (eqb a 0x2b) (one (eqb b 0x3d && eqb c 0x3e) ADDS 3 refl)
    (either Real (eqb a 0x2d) (either Real (eqb b 0x3e && eqb c 0x3e) {x = shape DELAYING 3} refl (one (eqb b 0x3e) ARROW 2 refl))
    (either Real (eqb a 0x3c) (one (eqb b 0x2d && eqb c 0x3e) BOTH_WAYS 3 refl)
    (either Real (eqb a 0x3a) (one (eqb b 0x3a) SCOPE 2 refl) (one (eqb a 0x2e && eqb b 0x2e) DOTS 2 refl)))))

pub shape_there : (bs : List ℕ) → Real (shape_of bs)
unfolding shape_of word_shape
shape_there bs =
    either Real (eqb (sort_of (get_or bs 0 0)) letter) {x = word_shape bs} (kind_there (take (run letter digit bs) bs))
    (either Real (eqb (sort_of (get_or bs 0 0)) digit) {x = shape NUMBER (number_width bs)}
    refl (sign_real (get_or bs 0 0) (get_or bs 1 0) (get_or bs 2 0)))

pub shape_real : (bs : List ℕ) → (shape_of bs).kind ≡ ENDED → ⊥
shape_real bs = kind_apart (shape_of bs).kind ENDED (shape_there bs)

-- a token lies within the text
pub shape_fits : (bs : List ℕ) → 0 < length bs → (shape_of bs).width ≤ length bs
unfolding shape_of word_shape
shape_fits bs h =
    let P : Shape → Type 0 = λ (s : Shape). s.width ≤ length bs in
    either P (eqb (sort_of (get_or bs 0 0)) letter) (run_le letter digit bs)
    (either P (eqb (sort_of (get_or bs 0 0)) digit) {x = shape NUMBER (number_width bs)} (number_fits bs) (sign_fits bs h))

-- ## One token after another

pub none_length : {A : Type 0} (l : List A) → 0 < length l → none l ≡ false
none_length [] h = absurd (omega arith)
none_length (x ∷ l) h = refl

pub some_length : {A : Type 0} (l : List A) → none l ≡ false → 0 < length l
some_length [] h = absurd (true≢false h)
some_length (x ∷ l) h = omega arith

pub none_empty : {A : Type 0} (l : List A) → length l ≡ 0 → none l ≡ true
none_empty [] h = refl
none_empty (x ∷ l) h = absurd (omega arith)

-- n tokens at most are as many as there are bytes and the end
pub tokens_enough : (n m i : ℕ) (bs : List ℕ) → length bs < n → length bs < m → tokens_by n i bs ≡ tokens_by m i bs
unfolding tokens_by
tokens_enough zero m i bs h g = absurd (omega arith)
tokens_enough (suc n) zero i bs h g = absurd (omega arith)
tokens_enough (suc n) (suc m) i bs h g = go (none rest) refl (tokens_enough n m (i + w + s.width) (drop s.width rest))
  where
    w : ℕ
    w = run blank blank bs

    rest : List ℕ
    rest = drop w bs

    s : Shape
    s = shape_of rest

    go : (b : Bool) → none rest ≡ b →
        (length (drop s.width rest) < n → length (drop s.width rest) < m →
        tokens_by n (i + w + s.width) (drop s.width rest) ≡ tokens_by m (i + w + s.width) (drop s.width rest)) →
        cond b (token ENDED (i + w) [] ∷ []) (token s.kind (i + w) (take s.width rest) ∷ tokens_by n
        (i + w + s.width) (drop s.width rest))
        ≡ cond b (token ENDED (i + w) [] ∷ []) (token s.kind (i + w) (take s.width rest) ∷ tokens_by m
        (i + w + s.width) (drop s.width rest))
    go true e f = refl
    go false e f =
        let p = shape_width rest e in
        let l : length (drop s.width rest) < length bs = simp length-drop (omega (arith, p, simp length-drop at (some_length rest e))) in
        rw (f (omega arith) (omega arith))

-- the end, and a token and what follows it
module _ (p : List ℕ) (i : ℕ) where
  pub from_end : length p ≤ i + run blank blank (drop i p) → from p i ≡ token ENDED (i + run blank blank (drop i p)) [] ∷ []
  unfolding from tokens_by
  from_end h = rw (none_empty (drop (run blank blank (drop i p)) (drop i p)) (simp length-drop (omega arith)))

  from_step : (at w : ℕ) → i + run blank blank (drop i p) ≡ at → at < length p → (shape_of (drop at p)).width ≡ w →
      from p i ≡ token (shape_of (drop at p)).kind at (part p at w) ∷ tokens_by (length p) (at + w) (drop (at + w) p)
  unfolding from tokens_by
  from_step at w e h g =
      let d : drop (run blank blank (drop i p)) (drop i p) ≡ drop at p =
      drop-drop (run blank blank (drop i p)) i p ∙ ap (λ (k : ℕ). drop k p) e in
      rw (d, e, none_length (drop at p) (simp length-drop (omega arith)), g, drop-drop w at p)

  pub from_token : (at w : ℕ) → i + run blank blank (drop i p) ≡ at → at < length p → (shape_of (drop at p)).width ≡ w →
      from p i ≡ token (shape_of (drop at p)).kind at (part p at w) ∷ from p (at + w)
  unfolding from
  from_token at w e h g =
      let b = shape_width (drop at p) (none_length (drop at p) (simp length-drop (omega arith))) in
      from_step at w e h g
      ∙ ap (λ (ts : List Token). token (shape_of (drop at p)).kind at (part p at w) ∷ ts)
      (tokens_enough (length p) (suc (length p)) (at + w) (drop (at + w) p) (simp length-drop (omega arith)) (simp length-drop (omega arith)))

  -- the same of a token as the code knows it
  pub stands_end : (at : ℕ) → at ≡ i + run blank blank (drop i p) → length p ≤ at →
      Stands p i (record { kind = ENDED; start = at; end = at })
  unfolding behind
  stands_end at e h =
      let z : at - at ≡ 0 = omega arith in
      record {
        tokens = rw z (rw (← e) at (from_end (omega arith)));
        forward = omega arith;
        empty = λ _. refl;
        wide = λ n. absurd (n refl);
        within = λ n. absurd (n refl);
      }

  pub stands_token : (at : ℕ) (s : Shape) → at ≡ i + run blank blank (drop i p) → at < length p → s ≡ shape_of (drop at p) →
      Stands p i (record { kind = s.kind; start = at; end = at + s.width })
  unfolding behind
  stands_token at s e h g =
      let z : at + s.width - at ≡ s.width = omega arith in
      record {
        tokens = rw (z, g, shape_there (drop at p))
            (from_token at (shape_of (drop at p)).width (sym e) h refl);
        forward = omega arith;
        empty = λ k. absurd (shape_real (drop at p) (ap (λ (x : Shape). x.kind) (sym g) ∙ k));
        wide = λ n. rw g (omega (arith, shape_width (drop at p) (none_length (drop at p) (simp length-drop (omega arith)))));
        within = λ n. rw g (omega (arith, simp length-drop at (shape_fits (drop at p) (simp length-drop (omega arith)))));
      }

-- ## A token's own place

run_stops : (low high : ℕ) (bs : List ℕ) → run low high (drop (run low high bs) bs) ≡ 0
unfolding run
run_stops low high [] = refl
run_stops low high (b ∷ bs) = go (leb low (sort_of b) && leb (sort_of b) high) refl (run_stops low high bs)
  where
    go : (t : Bool) → (leb low (sort_of b) && leb (sort_of b) high) ≡ t → run low high (drop (run low high bs) bs) ≡ 0 →
        run low high (drop (cond t (suc (run low high bs)) 0) (b ∷ bs)) ≡ 0
    go true e h = h
    go false e h = rw e

-- from a token's own place on the tokens are the same
pub from_start : (p : List ℕ) (i : ℕ) → from p (i + run blank blank (drop i p)) ≡ from p i
from_start p i =
    let at = i + run blank blank (drop i p) in
    let z : run blank blank (drop at p) ≡ 0 =
    ap (run blank blank) (sym (drop-drop (run blank blank (drop i p)) i p)) ∙ run_stops blank blank (drop i p) in
    let e : at + run blank blank (drop at p) ≡ at = omega (arith, z) in
    ⊎_elim (λ (l : at < length p). from_token p at at (shape_of (drop at p)).width e l refl
    ∙ sym (from_token p i at (shape_of (drop at p)).width refl l refl))
    (λ (g : length p ≤ at). from_end p at (omega arith) ∙ ap (λ (k : ℕ). token ENDED k [] ∷ []) e ∙ sym (from_end p i g))
    (lt_or_le at (length p))

-- where the first token begins
abbrev pub start_of : List Token → ℕ
start_of [] = 0
start_of (k ∷ ts) = k.start

pub starts : (p : List ℕ) (i : ℕ) → start_of (from p i) ≡ i + run blank blank (drop i p)
starts p i =
    let at = i + run blank blank (drop i p) in
    ⊎_elim (λ (l : at < length p). ap start_of (from_token p i at (shape_of (drop at p)).width refl l refl))
    (λ (g : length p ≤ at). ap start_of (from_end p i g))
    (lt_or_le at (length p))

pub from_first : (p : List ℕ) (i : ℕ) → from p (start_of (from p i)) ≡ from p i
from_first p i = ap (from p) (starts p i) ∙ from_start p i
