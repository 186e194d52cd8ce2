-- The lines of a whole text are those that feeding gives: the text split at its line feeds, each line cut.
use Rattle.std.specs.Prelude.{◌<◌, ◌≤◌, ◌∷◌, ◌++◌, ◌≡◌}
use Rattle.common.specs.Words.{ℕ, zero, suc, arith, Bool, true, false, cond, List, [], map, append_assoc, append-nil, refl, sym, ap, ◌∙◌, eqb}
use Rattle.common.specs.Words.{ne_eqb, length, take, length-take, take_all}
use Rattle.lines.specs.Lines.{line_feed, carry_limit, cut, fed, ended}
pub use Rattle.lines.specs.Lines.{begun}
unfoldable pub use Rattle.lines.specs.Lines.{pieces, counted, lines_of}

-- ## Cutting

take_append : (n : ℕ) (c d : List ℕ) → take n (take n c ++ d) ≡ take n (c ++ d)
take_append zero c d = refl
take_append (suc n) [] d = refl
take_append (suc n) (x ∷ c) d = ap (λ (l : List ℕ). x ∷ l) (take_append n c d)

-- a cut of what follows a cut is a cut of the whole
pub cut_append : (c d : List ℕ) → cut (cut c ++ d) ≡ cut (c ++ d)
unfolding cut
cut_append c d = take_append carry_limit c d

pub cut_short : (c : List ℕ) → length c ≤ carry_limit → cut c ≡ c
unfolding cut
cut_short c h = take_all carry_limit c h

pub cut_length : (c : List ℕ) → length (cut c) ≤ carry_limit
unfolding cut
cut_length c = rw (length-take carry_limit c) (omega arith)

cut_none : cut [] ≡ []
unfolding cut
cut_none = refl

cut_ended : (p : List ℕ) → ended (cut p) ≡ map cut (ended p)
unfolding cut
cut_ended [] = refl
cut_ended (b ∷ bs) = refl

-- ## The lines and the carry, together, are the pieces

-- two carries in a row are one
begun_begun : (c d : List ℕ) (ps : List (List ℕ)) → begun c (begun d ps) ≡ begun (c ++ d) ps
begun_begun c d [] = refl
begun_begun c d (p ∷ ps) = rw (append_assoc c d p)

begun_none : (t : List ℕ) → begun [] (pieces t) ≡ pieces t
unfolding pieces
begun_none [] = refl
begun_none (b ∷ bs) = go (eqb b line_feed)
  where
    go : (e : Bool) → begun [] (cond e ([] ∷ pieces bs) (begun (b ∷ []) (pieces bs)))
        ≡ cond e ([] ∷ pieces bs) (begun (b ∷ []) (pieces bs))
    go true = refl
    go false = begun_begun [] (b ∷ []) (pieces bs)

cut_begun : (c : List ℕ) (ps : List (List ℕ)) → map cut (begun (cut c) ps) ≡ map cut (begun c ps)
cut_begun c [] = rw (cut_short (cut c) (cut_length c))
cut_begun c (p ∷ ps) = rw (cut_append c p)

fed_pieces : (c t : List ℕ) → cut c ≡ c → (fed c t).lines ++ ((fed c t).carry ∷ []) ≡ map cut (begun c (pieces t))
unfolding fed pieces
fed_pieces c [] h = rw (append-nil c, h)
fed_pieces c (b ∷ bs) h = go (eqb b line_feed) refl (fed_pieces [] bs cut_none)
    (fed_pieces (cut (c ++ (b ∷ []))) bs (cut_short _ (cut_length (c ++ (b ∷ [])))))
  where
    go : (e : Bool) → eqb b line_feed ≡ e → (fed [] bs).lines ++ ((fed [] bs).carry ∷ []) ≡ map cut (begun [] (pieces bs)) →
        (fed (cut (c ++ (b ∷ []))) bs).lines ++ ((fed (cut (c ++ (b ∷ []))) bs).carry ∷ [])
        ≡ map cut (begun (cut (c ++ (b ∷ []))) (pieces bs)) →
        (fed c (b ∷ bs)).lines ++ ((fed c (b ∷ bs)).carry ∷ []) ≡ map cut (begun c (pieces (b ∷ bs)))
    go true e f g = rw (e, append-nil c, h, f, begun_none bs)
    go false e f g = rw (e, begun_begun c (b ∷ []) (pieces bs)) (g ∙ cut_begun (c ++ (b ∷ [])) (pieces bs))

last_counted : (p : List ℕ) → counted (p ∷ []) ≡ ended p
unfolding counted
last_counted [] = refl
last_counted (b ∷ bs) = rw (ne_eqb (suc (length bs)) 0 (omega arith))

-- what is counted of lines and a last piece
counted_last : (ls : List (List ℕ)) (p : List ℕ) → counted (ls ++ (p ∷ [])) ≡ ls ++ ended p
unfolding counted
counted_last [] p = last_counted p
counted_last (l ∷ []) p = ap (λ (xs : List (List ℕ)). l ∷ xs) (last_counted p)
counted_last (l ∷ m ∷ ls) p = ap (λ (xs : List (List ℕ)). l ∷ xs) (counted_last (m ∷ ls) p)

counted_cut : (ps : List (List ℕ)) → counted (map cut ps) ≡ map cut (counted ps)
unfolding counted
counted_cut [] = refl
counted_cut (p ∷ []) = last_counted (cut p) ∙ cut_ended p ∙ ap (map cut) (sym (last_counted p))
counted_cut (p ∷ q ∷ qs) = ap (λ (xs : List (List ℕ)). cut p ∷ xs) (counted_cut (q ∷ qs))

-- a whole text, fed from the empty carry
pub whole_lines : (t : List ℕ) → (fed [] t).lines ++ ended (fed [] t).carry ≡ map cut (lines_of t)
unfolding lines_of
whole_lines t =
    sym (counted_last (fed [] t).lines (fed [] t).carry) ∙ ap counted (fed_pieces [] t cut_none ∙ ap (map cut) (begun_none t))
    ∙ counted_cut (pieces t)

-- one line end more makes a line of a last line without its end
pub end_fed : (c : List ℕ) → 0 < length c → fed c (line_feed ∷ []) ≡ record { carry = []; lines = ended c }
unfolding fed
end_fed [] h = absurd (omega arith)
end_fed (b ∷ bs) h = refl
