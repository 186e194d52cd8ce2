-- Where the next line of a block ends, and what feeding the block is in these terms.
use Rattle.std.specs.Prelude.{◌+◌, ◌<◌, ◌≤◌, ◌∷◌, ◌++◌, ◌≡◌}
use Rattle.common.specs.Words.{ℕ, zero, suc, arith, add-one, Bool, true, false, cond, true≢false, List, [], append_assoc, append-nil, refl, ap}
use Rattle.common.specs.Words.{◌∙◌, eqb, length, take, drop, get_or, drop_of_length-le, drop-cons, eq-eqb, ne_eqb, eqb-false}
use Rattle.lines.specs.Lines.{line_feed, cut, lines_before, fed}
use Rattle.lines.specs.Whole.{cut_append, cut_short, cut_length}

-- how many bytes stand before the first line feed; all where there is none
unfoldable pub run : List ℕ → ℕ
run [] = 0
run (b ∷ bs) = cond (eqb b line_feed) 0 (suc (run bs))

-- the place of the first line feed from a place on, or the block's end
unfoldable pub end_of : List ℕ → ℕ → ℕ
end_of piece from = from + run (drop from piece)

pub end_none : (p : List ℕ) (i : ℕ) → length p ≤ i → end_of p i ≡ i
unfolding end_of run
end_none p i h = rw (drop_of_length-le p h) (omega arith)

pub end_here : (p : List ℕ) (i : ℕ) → i < length p → get_or p i 0 ≡ line_feed → end_of p i ≡ i
unfolding end_of run
end_here p i l e = rw (drop-cons p i 0 l, eq-eqb (get_or p i 0) line_feed e) (omega arith)

pub end_next : (p : List ℕ) (i : ℕ) → i < length p → (get_or p i 0 ≡ line_feed → ⊥) → end_of p (i + 1) ≡ end_of p i
unfolding end_of run
end_next p i l d = rw (drop-cons p i 0 l, ne_eqb (get_or p i 0) line_feed d, add-one i) (omega arith)

pub end_past : (p : List ℕ) (i : ℕ) → i ≤ end_of p i
unfolding end_of
end_past p i = omega arith

pub run_le : (t : List ℕ) → run t ≤ length t
unfolding run
run_le [] = omega arith
run_le (b ∷ bs) = go (eqb b line_feed) (run_le bs)
  where
    go : (e : Bool) → run bs ≤ length bs → cond e 0 (suc (run bs)) ≤ suc (length bs)
    go true h = omega arith
    go false h = omega arith

-- a byte more of the line, behind the carry
pub carry_more : (c : List ℕ) (b : ℕ) (xs : List ℕ) → cut (cut (c ++ (b ∷ [])) ++ xs) ≡ cut (c ++ (b ∷ xs))
carry_more c b xs = cut_append (c ++ (b ∷ [])) xs ∙ ap cut (append_assoc c (b ∷ []) xs)

-- a line ends in the text: it was begun by the carry, and the rest is fed from the empty carry
pub fed_line :
    (c t : List ℕ) → cut c ≡ c → run t < length t →
    fed c t ≡ lines_before (cut (c ++ take (run t) t) ∷ []) (fed [] (drop (suc (run t)) t))
unfolding fed run
fed_line c [] h l = absurd (omega arith)
fed_line c (b ∷ bs) h l = go (eqb b line_feed) refl (fed_line (cut (c ++ (b ∷ []))) bs (cut_short _ (cut_length (c ++ (b ∷ [])))))
  where
    go :
        (e : Bool) → eqb b line_feed ≡ e →
        (run bs < length bs →
        fed (cut (c ++ (b ∷ []))) bs ≡ lines_before (cut (cut (c ++ (b ∷ [])) ++ take (run bs) bs) ∷ []) (fed [] (drop (suc (run bs)) bs)))
        →
        fed c (b ∷ bs) ≡ lines_before (cut (c ++ take (run (b ∷ bs)) (b ∷ bs)) ∷ []) (fed [] (drop (suc (run (b ∷ bs))) (b ∷ bs)))
    go true e f = rw (e, append-nil c, h)
    go false e f =
        rw e
        (f (omega (arith, rw e at l))
        ∙ ap (λ (x : List ℕ). lines_before (x ∷ []) (fed [] (drop (suc (run bs)) bs))) (carry_more c b (take (run bs) bs)))

-- none ends in it: all of it is carried
pub fed_tail : (c t : List ℕ) → cut c ≡ c → length t ≤ run t → fed c t ≡ record { carry = cut (c ++ t); lines = [] }
unfolding fed run
fed_tail c [] h l = rw (append-nil c, h)
fed_tail c (b ∷ bs) h l = go (eqb b line_feed) refl (fed_tail (cut (c ++ (b ∷ []))) bs (cut_short _ (cut_length (c ++ (b ∷ [])))))
  where
    go :
        (e : Bool) → eqb b line_feed ≡ e →
        (length bs ≤ run bs → fed (cut (c ++ (b ∷ []))) bs ≡ record { carry = cut (cut (c ++ (b ∷ [])) ++ bs); lines = [] }) →
        fed c (b ∷ bs) ≡ record { carry = cut (c ++ (b ∷ bs)); lines = [] }
    go true e f = absurd (omega (arith, rw e at l))
    go false e f = rw e (f (omega (arith, rw e at l)) ∙ rw (carry_more c b bs))

-- ## Several bytes at once

abbrev pub stride : ℕ
stride = 16

-- whether one of so many bytes, from a place on, is a line feed
unfoldable pub feed_in : List ℕ → ℕ → ℕ → Bool
feed_in p i zero = false
feed_in p i (suc k) = cond (eqb (get_or p (i + k) 0) line_feed) true (feed_in p i k)

pub feed_none : (p : List ℕ) (i : ℕ) → false ≡ feed_in p i 0
unfolding feed_in
feed_none p i = refl

pub feed_here : (p : List ℕ) (i k : ℕ) → get_or p (i + k) 0 ≡ line_feed → true ≡ feed_in p i (k + 1)
unfolding feed_in
feed_here p i k e = rw (add-one k, eq-eqb (get_or p (i + k) 0) line_feed e)

pub feed_next : (p : List ℕ) (i k : ℕ) → (get_or p (i + k) 0 ≡ line_feed → ⊥) → feed_in p i k ≡ feed_in p i (k + 1)
unfolding feed_in
feed_next p i k d = rw (add-one k, ne_eqb (get_or p (i + k) 0) line_feed d)

-- bytes without a line feed may be passed over
pub end_passes : (p : List ℕ) (i k : ℕ) → i + k ≤ length p → feed_in p i k ≡ false → end_of p (i + k) ≡ end_of p i
unfolding feed_in
end_passes p i zero l e = let z : i + 0 ≡ i = omega arith in rw z
end_passes p i (suc k) l e = go (eqb (get_or p (i + k) 0) line_feed) refl (end_passes p i k (omega arith))
  where
    go : (b : Bool) → eqb (get_or p (i + k) 0) line_feed ≡ b → (feed_in p i k ≡ false → end_of p (i + k) ≡ end_of p i) →
        end_of p (i + suc k) ≡ end_of p i
    go true h f = absurd (true≢false (rw h at e))
    go false h f =
        let z : i + suc k ≡ i + k + 1 = omega arith in
        rw z (end_next p (i + k) (omega arith) (eqb-false _ _ h) ∙ f (rw h at e))
