-- How a word is found in the list: by a sum over its letters that no two words of the list share. What the code's tables hold is
-- reckoned from the list itself.
use Rattle.std.specs.Prelude.{◌+◌, ◌-◌, ◌*◌, ◌%◌, ◌<◌, ◌≤◌, ◌&&◌, ◌∷◌, ◌++◌, ◌⊎◌, ◌≡◌}
use Rattle.common.specs.Words.{ℕ, zero, suc, arith, Bool, true, false, cond, List, [], inl, inr, ⊎_elim, refl, sym, ap, ◌∙◌, eqb, leb}
use Rattle.common.specs.Words.{eqb-true}
use Rattle.common.specs.Words.{leb-true, ltb, ltb-true, ne_eqb, length, get_or, replicate}
use Rattle.common.specs.Tests.{clash, true_or_false, and_left, and_right}
use Rattle.common.proofs.Rows.{every, every_at}
use Rattle.common.specs.Stores.{part}
use Rattle.std.proofs.lemmas.List.{get_or_default}
use Rattle.words.specs.Letters.{words_by, same, same_eq, same_refl}
use Rattle.words.specs.Same.{mark, same_kind}
use Rattle.words.specs.declared.kinds.Kind.{Kind}
use Rattle.words.specs.Words.{listed, rank, kinds, kind_of, NAME}

unfoldable pub sum_by : ℕ → List ℕ → ℕ
sum_by s [] = s
sum_by s (b ∷ bs) = sum_by ((s * 144 + b) % 385) bs

abbrev pub sum_of : List ℕ → ℕ
sum_of w = sum_by 0 w

abbrev pub word_at : ℕ → List ℕ
word_at k = get_or listed k []

-- the number of the first word that has the sum, 0 where none has it
unfoldable pub number_by : List (List ℕ) → ℕ → ℕ → ℕ
number_by [] k s = 0
number_by (v ∷ vs) k s = let next = number_by vs (k + 1) s in cond (eqb (sum_of v) s) k next

abbrev pub number_with : ℕ → ℕ
number_with s = number_by listed 0 s

-- the words one after another, 25 bytes for each
unfoldable pub padded : List (List ℕ) → List ℕ
padded [] = []
padded (w ∷ ws) = w ++ (replicate (25 - length w) 0x20 ++ padded ws)

-- word k is found by its sum, its letters stand in their place, and it is the list's first of these letters
abbrev stands : ℕ → Bool
stands k =
    eqb (number_with (sum_of (word_at k))) k && (leb (25 * k + length (word_at k)) 2050
    && (same (part (padded listed) (25 * k) (length (word_at k))) (word_at k) && eqb (rank listed 0 82 (word_at k)) k))

all_stand : every stands 82 ≡ true
unfolding every sum_by number_by padded same words_by listed rank
all_stand = refl

-- what the test says of word k
pub record Entry (k : ℕ) : Type 0 where
  pub placed : number_with (sum_of (word_at k)) ≡ k
  pub room : 25 * k + length (word_at k) ≤ 2050
  pub written : part (padded listed) (25 * k) (length (word_at k)) ≡ word_at k
  pub numbered : rank listed 0 82 (word_at k) ≡ k

pub entry : (k : ℕ) → k < 82 → Entry k
entry k l =
    let a = every_at stands 82 k all_stand l in
    let b = and_right (eqb (number_with (sum_of (word_at k))) k) _ a in
    let c = and_right (leb (25 * k + length (word_at k)) 2050) _ b in
    record {
      placed = eqb-true _ _ (and_left (eqb (number_with (sum_of (word_at k))) k) _ a);
      room = leb-true _ _ (and_left (leb (25 * k + length (word_at k)) 2050) _ b);
      written = same_eq _ _ (and_left (same (part (padded listed) (25 * k) (length (word_at k))) (word_at k)) _ c);
      numbered = eqb-true _ _ (and_right (same (part (padded listed) (25 * k) (length (word_at k))) (word_at k)) _ c);
    }

-- a word that has no number stands nowhere
rank_is : (vs : List (List ℕ)) (k other : ℕ) (w : List ℕ) →
    (rank vs k other w ≡ other) ⊎ ((j : ℕ) × (j < length vs) × (same (get_or vs j []) w ≡ true))
unfolding rank
rank_is [] k other w = inl refl
rank_is (v ∷ vs) k other w = go (same v w) refl (rank_is vs (k + 1) other w)
  where
    Held : List (List ℕ) → Type 0
    Held us = (j : ℕ) × (j < length us) × (same (get_or us j []) w ≡ true)

    go : (t : Bool) → same v w ≡ t → (rank vs (k + 1) other w ≡ other) ⊎ Held vs →
        (cond t k (rank vs (k + 1) other w) ≡ other) ⊎ Held (v ∷ vs)
    go true e s = inr (0, omega arith, e)
    go false e (inl r) = inl r
    go false e (inr x) = inr (suc x.0, omega (arith, x.1), x.2)

listed_length : length listed ≡ 82
unfolding words_by listed
listed_length = refl

kinds_length : length kinds ≡ 82
unfolding kinds
kinds_length = refl

-- the word at the place of its sum
pub kind_found : (w : List ℕ) (k : ℕ) → k < 82 → same w (word_at k) ≡ true → kind_of w ≡ get_or kinds k Kind.Ended
unfolding kind_of
kind_found w k l h =
    ap (λ (n : ℕ). get_or kinds n NAME) (ap (rank listed 0 82) (same_eq w (word_at k) h) ∙ (entry k l).numbered)
    ∙ get_or_default kinds k NAME Kind.Ended (rw kinds_length l)

-- another word there, or none
pub kind_other : (w : List ℕ) → same w (word_at (number_with (sum_of w))) ≡ false → kind_of w ≡ NAME
unfolding kinds kind_of
kind_other w fails =
    ⊎_elim (λ (r : rank listed 0 82 w ≡ 82). rw r)
    (λ (x : (j : ℕ) × (j < length listed) × (same (get_or listed j []) w ≡ true)).
    let v : word_at x.0 ≡ w = same_eq _ _ x.2 in
    let p : number_with (sum_of w) ≡ x.0 = sym (ap (λ (u : List ℕ). number_with (sum_of u)) v)
    ∙ (entry x.0 (omega (arith, x.1, listed_length))).placed in
    absurd (clash (rw (p, v) (same_refl w)) fails))
    (rank_is listed 0 82 w)

-- words of another length differ
pub same_length : (v w : List ℕ) → (length v ≡ length w → ⊥) → same v w ≡ false
same_length v w h =
    ⊎_elim (λ (e : same v w ≡ true). absurd (h (ap length (same_eq v w e)))) (λ (e : same v w ≡ false). e) (true_or_false (same v w))

-- a number of a list from k on is none below k
pub rank_from : (vs : List (List ℕ)) (k m other : ℕ) (w : List ℕ) → m ≤ k → m ≤ other → m ≤ rank vs k other w
unfolding rank
rank_from [] k m other w h g = g
rank_from (v ∷ vs) k m other w h g = go (same v w) (rank_from vs (k + 1) m other w (omega arith) g)
  where
    go : (t : Bool) → m ≤ rank vs (k + 1) other w → m ≤ cond t k (rank vs (k + 1) other w)
    go true r = h
    go false r = r

-- the kind of word k has the number 0x200 + k
abbrev marked_at : ℕ → Bool
marked_at k = eqb (mark (get_or kinds k Kind.Ended)) (0x200 + k)

all_marked : every marked_at 82 ≡ true
unfolding every kinds
all_marked = refl

pub mark_found : (w : List ℕ) (k : ℕ) → k < 82 → same w (word_at k) ≡ true → mark (kind_of w) ≡ 0x200 + k
mark_found w k l h = ap mark (kind_found w k l h) ∙ eqb-true _ _ (every_at marked_at 82 k all_marked l)

pub word_marked : (k : ℕ) → k < 82 → mark (kind_of (word_at k)) ≡ 0x200 + k
word_marked k l = mark_found (word_at k) k l (same_refl (word_at k))

-- a word's kind is none of a sign's, so not the text's end
abbrev of_word : Kind → Bool
of_word k = leb 0x200 (mark k) && ltb (mark k) 0x300

all_words : List Kind → Bool
all_words [] = true
all_words (k ∷ ks) = of_word k && all_words ks

kinds_words : all_words kinds ≡ true
unfolding kinds all_words
kinds_words = refl

word_anywhere : (ks : List Kind) (n : ℕ) → all_words ks ≡ true → of_word (get_or ks n NAME) ≡ true
unfolding all_words
word_anywhere [] n h = refl
word_anywhere (k ∷ ks) zero h = and_left (of_word k) (all_words ks) h
word_anywhere (k ∷ ks) (suc n) h = word_anywhere ks n (and_right (of_word k) (all_words ks) h)

pub kind_from : (w : List ℕ) → (0x200 ≤ mark (kind_of w)) × (mark (kind_of w) < 0x300)
unfolding kind_of
kind_from w =
    let k = get_or kinds (rank listed 0 82 w) NAME in
    let h = word_anywhere kinds (rank listed 0 82 w) kinds_words in (
      leb-true 0x200 (mark k) (and_left (leb 0x200 (mark k)) (ltb (mark k) 0x300) h),
      ltb-true (mark k) 0x300 (and_right (leb 0x200 (mark k)) (ltb (mark k) 0x300) h),
    )

pub kind_there : (w : List ℕ) → same_kind (kind_of w) Kind.Ended ≡ false
kind_there w = ne_eqb (mark (kind_of w)) 0x100 (λ e. omega (arith, (kind_from w).0))
