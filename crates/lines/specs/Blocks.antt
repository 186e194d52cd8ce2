-- Feeding a text in any division into blocks gives the same lines, and the same carry, as feeding it whole.
use Rattle.std.specs.Prelude.{◌∷◌, ◌++◌, ◌≡◌}
use Rattle.common.specs.Words.{ℕ, Bool, true, false, List, [], refl, sym, ap, ◌∙◌, eqb}
use Rattle.lines.specs.Lines.{line_feed, cut, lines_before, fed}
unfoldable pub use Rattle.lines.specs.Lines.{fed_all, joined}

pub fed_append : (c xs ys : List ℕ) → fed c (xs ++ ys) ≡ lines_before (fed c xs).lines (fed (fed c xs).carry ys)
unfolding fed
fed_append c [] ys = refl
fed_append c (b ∷ xs) ys = go (eqb b line_feed) refl (fed_append [] xs ys) (fed_append (cut (c ++ (b ∷ []))) xs ys)
  where
    go : (t : Bool) → eqb b line_feed ≡ t → fed [] (xs ++ ys) ≡ lines_before (fed [] xs).lines (fed (fed [] xs).carry ys) →
        fed (cut (c ++ (b ∷ []))) (xs ++ ys)
        ≡ lines_before (fed (cut (c ++ (b ∷ []))) xs).lines (fed (fed (cut (c ++ (b ∷ []))) xs).carry ys) →
        fed c (b ∷ (xs ++ ys)) ≡ lines_before (fed c (b ∷ xs)).lines (fed (fed c (b ∷ xs)).carry ys)
    go true e f g = rw (e, f)
    go false e f g = rw (e, g)

pub fed_blocks : (c : List ℕ) (xs : List (List ℕ)) → fed_all c xs ≡ fed c (joined xs)
unfolding fed_all joined fed
fed_blocks c [] = refl
fed_blocks c (x ∷ xs) = rw (fed_blocks (fed c x).carry xs) (sym (fed_append c x (joined xs)))

-- two divisions of one text
pub any_division : (c : List ℕ) (xs ys : List (List ℕ)) → joined xs ≡ joined ys → fed_all c xs ≡ fed_all c ys
any_division c xs ys e = fed_blocks c xs ∙ ap (λ (t : List ℕ). fed c t) e ∙ sym (fed_blocks c ys)
