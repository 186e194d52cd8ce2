-- Feeding line by line, as the code goes; and what feeding means: the lines of the part that was used are answered one after another.
use Rattle.std.specs.Prelude.{◌+◌, ◌-◌, ◌<◌, ◌≤◌, ◌∷◌, ◌++◌, ◌≡◌}
use Rattle.common.specs.Words.{ℕ, suc, arith, Bool, true, false, List, [], append_assoc, append-nil, refl, ap, ◌∙◌, eqb, length, take, drop}
use Rattle.lines.specs.Lines.{line_feed, cut}
use Rattle.lines.specs.Whole.{cut_short, cut_length}
use Rattle.lines.specs.Ends.{run, carry_more}
use Rattle.feed.specs.Answers.{Console, next, reply}
use Rattle.feed.specs.Feed.{Feeding, onward, going, feed_of}

-- ## Line by line

pub onward_onward : (j k : ℕ) (xs ys : List ℕ) (f : Feeding) → onward j xs (onward k ys f) ≡ onward (j + k) (xs ++ ys) f
onward_onward j k xs ys f =
    let e : j + (k + f.taken) ≡ j + k + f.taken = omega arith in
    rw (e, append_assoc xs ys f.answers)

-- the console goes on from a line, with what is left of the text and of the room
abbrev pub line_fed : Console → List ℕ → List ℕ → ℕ → Feeding
line_fed w line t room = onward (suc (run t)) (reply w line) (feed_of (next w line) [] (drop (suc (run t)) t) (room - length (reply w line)))

onward_one : (n : ℕ) (xs : List ℕ) (f : Feeding) → onward 1 [] (onward n xs f) ≡ onward (suc n) xs f
onward_one n xs f = let s : 1 + (n + f.taken) ≡ suc n + f.taken = omega arith in rw s

-- a byte before the line, which the carry took
line_more :
    (w : Console) (xs c : List ℕ) (b : ℕ) (bs : List ℕ) (room : ℕ) →
    onward 1 [] (line_fed w (cut (cut (c ++ (b ∷ [])) ++ xs)) bs room)
    ≡ onward (suc (suc (run bs))) (reply w (cut (c ++ (b ∷ xs))))
    (feed_of (next w (cut (c ++ (b ∷ xs)))) [] (drop (suc (run bs)) bs) (room - length (reply w (cut (c ++ (b ∷ xs))))))
line_more w xs c b bs room =
    rw (carry_more c b xs)
    (onward_one (suc (run bs)) (reply w (cut (c ++ (b ∷ xs))))
    (feed_of (next w (cut (c ++ (b ∷ xs)))) [] (drop (suc (run bs)) bs) (room - length (reply w (cut (c ++ (b ∷ xs)))))))

pub going_line :
    (w : Console) (c t : List ℕ) (room : ℕ) → cut c ≡ c → run t < length t →
    going w c t room ≡ line_fed w (cut (c ++ take (run t) t)) t room
unfolding going feed_of run
going_line w c [] room h l = absurd (omega arith)
going_line w c (b ∷ bs) room h l =
    go (eqb b line_feed) refl (going_line w (cut (c ++ (b ∷ []))) bs room (cut_short _ (cut_length (c ++ (b ∷ [])))))
  where
    go :
        (e : Bool) → eqb b line_feed ≡ e →
        (run bs < length bs →
        going w (cut (c ++ (b ∷ []))) bs room ≡ line_fed w (cut (cut (c ++ (b ∷ [])) ++ take (run bs) bs)) bs room) →
        going w c (b ∷ bs) room ≡ line_fed w (cut (c ++ take (run (b ∷ bs)) (b ∷ bs))) (b ∷ bs) room
    go true e f = rw (e, append-nil c, h)
    go false e f = rw e (ap (onward 1 []) (f (omega (arith, rw e at l))) ∙ line_more w (take (run bs) bs) c b bs room)

pub going_tail :
    (w : Console) (c t : List ℕ) (room : ℕ) → cut c ≡ c → length t ≤ run t →
    going w c t room ≡ record { console = w; carry = cut (c ++ t); taken = length t; answers = [] }
unfolding going run
going_tail w c [] room h l = rw (append-nil c, h)
going_tail w c (b ∷ bs) room h l =
    go (eqb b line_feed) refl (going_tail w (cut (c ++ (b ∷ []))) bs room (cut_short _ (cut_length (c ++ (b ∷ [])))))
  where
    go :
        (e : Bool) → eqb b line_feed ≡ e →
        (length bs ≤ run bs →
        going w (cut (c ++ (b ∷ []))) bs room
        ≡ record { console = w; carry = cut (cut (c ++ (b ∷ [])) ++ bs); taken = length bs; answers = [] }) →
        going w c (b ∷ bs) room ≡ record { console = w; carry = cut (c ++ (b ∷ bs)); taken = suc (length bs); answers = [] }
    go true e f = absurd (omega (arith, rw e at l))
    go false e f = let s : 1 + length bs ≡ suc (length bs) = omega arith in rw (e, f (omega (arith, rw e at l)), carry_more c b bs, s)
