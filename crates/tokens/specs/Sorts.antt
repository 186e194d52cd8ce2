-- How the code compares sorts of bytes, as their numbers compare.
use Rattle.std.specs.Prelude.{◌<◌, ◌≤◌, ◌&&◌, ◌≡◌}
use Rattle.std.specs.Ordering.{partial_lt, partial_le}
use Rattle.common.specs.Words.{ℕ, true, false, leb, cond, refl, sym, ap, ◌∙◌, eqb, ltb, ltb-true, ltb-false}
use Rattle.tokens.specs.declared.Sort.{Sort}
use Rattle.tokens.specs.contracts.Sort.{the_type}
use Rattle.tokens.specs.contracts.SortPartialOrd.TheImpl.{ghosts}
use Rattle.tokens.specs.Tokens.{letter, digit, rank}
use denote.Enum.Bare.{sameb, same_true, same_false}

below : (a b : Sort) → partial_lt ghosts.partial_cmp a b ≡ ltb (rank a) (rank b)
below Sort.Blank Sort.Blank = refl
below Sort.Blank Sort.Sign = refl
below Sort.Blank Sort.Letter = refl
below Sort.Blank Sort.Underscore = refl
below Sort.Blank Sort.Digit = refl
below Sort.Sign Sort.Blank = refl
below Sort.Sign Sort.Sign = refl
below Sort.Sign Sort.Letter = refl
below Sort.Sign Sort.Underscore = refl
below Sort.Sign Sort.Digit = refl
below Sort.Letter Sort.Blank = refl
below Sort.Letter Sort.Sign = refl
below Sort.Letter Sort.Letter = refl
below Sort.Letter Sort.Underscore = refl
below Sort.Letter Sort.Digit = refl
below Sort.Underscore Sort.Blank = refl
below Sort.Underscore Sort.Sign = refl
below Sort.Underscore Sort.Letter = refl
below Sort.Underscore Sort.Underscore = refl
below Sort.Underscore Sort.Digit = refl
below Sort.Digit Sort.Blank = refl
below Sort.Digit Sort.Sign = refl
below Sort.Digit Sort.Letter = refl
below Sort.Digit Sort.Underscore = refl
below Sort.Digit Sort.Digit = refl

pub sort_below : (a b : Sort) → true ≡ partial_lt ghosts.partial_cmp a b → rank a < rank b
sort_below a b h = ltb-true (rank a) (rank b) (sym (below a b) ∙ sym h)

pub sort_above : (a b : Sort) → false ≡ partial_lt ghosts.partial_cmp a b → rank b ≤ rank a
sort_above a b h = ltb-false (rank a) (rank b) (sym (below a b) ∙ sym h)

-- the sorts of a name's bytes are the last three
pub in_names : (a : Sort) → partial_le ghosts.partial_cmp Sort.Letter a ≡ (leb letter (rank a) && leb (rank a) digit)
in_names Sort.Blank = refl
in_names Sort.Sign = refl
in_names Sort.Letter = refl
in_names Sort.Underscore = refl
in_names Sort.Digit = refl

-- a sort by its number
abbrev pub sort_with : ℕ → Sort
sort_with n = cond (eqb n 0) Sort.Blank (cond (eqb n 1) Sort.Sign (cond (eqb n 2) Sort.Letter (cond (eqb n 3) Sort.Underscore Sort.Digit)))

ranked : (a : Sort) → sort_with (rank a) ≡ a
ranked Sort.Blank = refl
ranked Sort.Sign = refl
ranked Sort.Letter = refl
ranked Sort.Underscore = refl
ranked Sort.Digit = refl

pub sort_is : (a b : Sort) → rank a ≡ rank b → a ≡ b
sort_is a b e = sym (ranked a) ∙ ap sort_with e ∙ ranked b

-- what a test by `==` has answered
pub sort_eq : (a b : Sort) → true ≡ sameb the_type a b → rank a ≡ rank b
sort_eq a b h = ap rank (same_true the_type tt a b (sym h))

pub sort_ne : (a b : Sort) → false ≡ sameb the_type a b → rank a ≡ rank b → ⊥
sort_ne a b h e = same_false the_type a b (sym h) (sort_is a b e)
