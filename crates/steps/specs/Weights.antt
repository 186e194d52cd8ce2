-- Tokens weigh no more than the bytes that they stand in.
use Rattle.std.specs.Prelude.{◌+◌, ◌-◌, ◌%◌, ◌<◌, ◌≤◌, ◌&&◌, ◌∷◌, ◌≡◌}
use Rattle.common.specs.Words.{ℕ, zero, suc, arith, Bool, true, false, List, [], refl, eqb, leb, leb-true, ne_eqb, length, take, drop}
use Rattle.common.specs.Words.{get_or, length-drop, length-take-le}
use Rattle.common.specs.Tests.{and_left, and_right}
use Rattle.words.specs.Letters.{words_by, same, same_eq}
use Rattle.words.specs.Words.{listed, rank, kinds, NAME, kind_of}
use Rattle.words.specs.declared.kinds.Kind.{Kind}
use Rattle.words.specs.Kinds.{NUMBER, BECOMES, ADDS, ARROW, DELAYING, BOTH_WAYS, SCOPE, DOTS}
use Rattle.tokens.specs.declared.Shape.{Shape}
use Rattle.tokens.specs.Tokens.{Token, sort_of, run, blank, letter, digit, shape, word_shape, number_width, one_of, sign_shape, shape_of, none}
use Rattle.tokens.specs.Tokens.{tokens_by, from}
use Rattle.tokens.specs.Laws.{either, cases, run_le, shape_width, shape_fits, some_length}
use Rattle.steps.specs.Laws.{weight_of, weight}

-- ## Words

-- what the kind of a word weighs, by its number in the list
abbrev weight_at : ℕ → ℕ
weight_at k = weight_of (get_or kinds k NAME)

-- each word of a list, whose first has the number k, has as many letters as its kind weighs
unfoldable spelled : List (List ℕ) → ℕ → Bool
spelled [] k = true
spelled (v ∷ vs) k = leb (weight_at k) (length v) && spelled vs (k + 1)

all_spelled : spelled listed 0 ≡ true
unfolding spelled listed kinds words_by
all_spelled = refl

rank_weighs : (vs : List (List ℕ)) (k other : ℕ) (w : List ℕ) → spelled vs k ≡ true →
    weight_at other ≤ length w → weight_at (rank vs k other w) ≤ length w
unfolding spelled rank
rank_weighs [] k other w h g = g
rank_weighs (v ∷ vs) k other w h g =
    cases (λ (x : ℕ). weight_at x ≤ length w) (same v w)
    (λ e. rw (← same_eq v w e) (leb-true (weight_at k) (length v) (and_left (leb (weight_at k) (length v)) _ h)))
    (λ _. rank_weighs vs (k + 1) other w (and_right (leb (weight_at k) (length v)) _ h) g)

no_word : weight_at 82 ≡ 1
unfolding kinds
no_word = refl

word_weighs : (w : List ℕ) → 0 < length w → weight_of (kind_of w) ≤ length w
unfolding kind_of
word_weighs w h = rank_weighs listed 0 82 w all_spelled (omega (arith, no_word))

-- ## Signs

byte_weighs : (a : ℕ) → weight_of (Kind.Sign a) ≤ 1
byte_weighs a =
    rw (
      ne_eqb (0x300 + a) 0x100 (λ e. omega arith),
      ne_eqb (0x300 + a) 0x23e (λ e. omega arith),
      ne_eqb (0x300 + a) 0x22a (λ e. omega arith),
      ne_eqb (0x300 + a) 0x104 (λ e. omega arith),
      ne_eqb (0x300 + a) 0x105 (λ e. omega arith),
    )
    (omega arith)

sign_weighs : (a b c : ℕ) → weight_of (sign_shape a b c).kind ≤ (sign_shape a b c).width
unfolding sign_shape
sign_weighs a b c =
    let P : Shape → Type 0 = λ (s : Shape). weight_of s.kind ≤ s.width in
    let one : (t : Bool) (k : Kind) (w : ℕ) → weight_of k ≤ w → P (one_of t k w a) =
    λ (t : Bool) (k : Kind) (w : ℕ) (h : weight_of k ≤ w).
    either P t {x = shape k w} {y = shape (Kind.Sign (a % 256)) 1} h (byte_weighs (a % 256)) in
    either P (eqb a 0x3d) (one (eqb b 0x3e) BECOMES 2 (omega arith))
    (either P (eqb a 0x2b) (one (eqb b 0x3d && eqb c 0x3e) ADDS 3 (omega arith))
    (either P (eqb a 0x2d) (either P (eqb b 0x3e && eqb c 0x3e) {x = shape DELAYING 3} (omega arith) (one (eqb b 0x3e) ARROW 2 (omega arith)))
    (either P (eqb a 0x3c) (one (eqb b 0x2d && eqb c 0x3e) BOTH_WAYS 3 (omega arith))
    (either P (eqb a 0x3a) (one (eqb b 0x3a) SCOPE 2 (omega arith)) (one (eqb a 0x2e && eqb b 0x2e) DOTS 2 (omega arith))))))

-- ## Tokens

-- a token has as many bytes as it weighs
pub shape_weighs : (bs : List ℕ) → none bs ≡ false → weight_of (shape_of bs).kind ≤ (shape_of bs).width
unfolding shape_of word_shape
shape_weighs bs h =
    let P : Shape → Type 0 = λ (s : Shape). 0 < s.width → weight_of s.kind ≤ s.width in
    let n = run letter digit bs in
    let l : length (take n bs) ≡ n = length-take-le n bs (run_le letter digit bs) in
    either P (eqb (sort_of (get_or bs 0 0)) letter) {x = word_shape bs} (λ x. omega (arith, l, word_weighs (take n bs) (omega (arith, l))))
    (either P (eqb (sort_of (get_or bs 0 0)) digit) {x = shape NUMBER (number_width bs)}
    (λ x. x) (λ _. sign_weighs (get_or bs 0 0) (get_or bs 1 0) (get_or bs 2 0)))
    (shape_width bs h)

tokens_weigh : (n i : ℕ) (bs : List ℕ) → weight (tokens_by n i bs) ≤ length bs
unfolding weight tokens_by
tokens_weigh zero i bs = omega arith
tokens_weigh (suc n) i bs =
    let g = run blank blank bs in
    let rest = drop g bs in
    let s = shape_of rest in
    let l : length rest ≡ length bs - g = length-drop g bs in
    cases (λ (ts : List Token). weight ts ≤ length bs) (none rest) (λ _. omega arith)
    (λ e. let m : length (drop s.width rest) ≡ length rest - s.width = length-drop s.width rest in
    omega (arith, l, m, shape_weighs rest e, shape_fits rest (some_length rest e), tokens_weigh n (i + g + s.width) (drop s.width rest)))

-- the tokens from a place on weigh no more than the bytes from there on
pub from_weighs : (p : List ℕ) (i : ℕ) → weight (from p i) ≤ length p - i
unfolding from
from_weighs p i = let l : length (drop i p) ≡ length p - i = length-drop i p in omega (arith, l, tokens_weigh (suc (length p)) i (drop i p))
