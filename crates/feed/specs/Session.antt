-- What feeding means: the lines of the text that was used are answered one after another, in whatever blocks the text came and however
-- often the room for answers ran short.
use Rattle.std.specs.Prelude.{◌+◌, ◌-◌, ◌<◌, ◌≤◌, ◌∷◌, ◌++◌, ◌≡◌}
use Rattle.common.specs.Words.{ℕ, suc, arith, Bool, true, false, List, [], map, append-nil, refl, sym, cond, ap, ◌∙◌, eqb, ltb, length, take}
use Rattle.common.specs.Words.{drop, length-append, length-drop, le-ltb, ltb-true}
use Rattle.desk.specs.Desk.{Turn}
use Rattle.lines.specs.Lines.{line_feed, cut, fed, ended}
use Rattle.lines.specs.Blocks.{fed_append}
use Rattle.lines.specs.Whole.{lines_of, whole_lines}
use Rattle.feed.specs.Answers.{Console, next, reply, console_after, answers_to, console_append, answers_append}
pub use Rattle.feed.specs.Feed.{Answered}
use Rattle.feed.specs.Feed.{enough, Feeding, still, onward, going, feed_of}
use Rattle.feed.specs.Step.{line_cut}
use Rattle.feed.specs.Outcome.{fed_from, HeldOutcome, Outcome}
use Rattle.feed.specs.declared.Fed.{Fed as FedResult}
use Rattle.desk.specs.declared.Desk.{Desk}
use Rattle.lines.specs.declared.Carry.{Carry}

-- ## One call

none_answered : (w : Console) (c : List ℕ) → Answered w c [] (still w c)
unfolding fed console_after answers_to
none_answered w c = record { console = refl; answers = refl; carry = refl }

-- a byte more of the line; and the line's end
byte_answered :
    (w : Console) (c : List ℕ) (b : ℕ) (x : List ℕ) (f : Feeding) → eqb b line_feed ≡ false → Answered w (cut (c ++ (b ∷ []))) x f →
    Answered w c (b ∷ x) (onward 1 [] f)
unfolding fed
byte_answered w c b x f e a = record { console = rw e a.console; answers = rw e a.answers; carry = rw e a.carry }

line_answered :
    (w : Console) (c : List ℕ) (b : ℕ) (x : List ℕ) (f : Feeding) → eqb b line_feed ≡ true → Answered (next w c) [] x f →
    Answered w c (b ∷ x) (onward 1 (reply w c) f)
unfolding fed console_after answers_to
line_answered w c b x f e a =
    record { console = rw e a.console; answers = rw e (ap (λ (y : List ℕ). reply w c ++ y) a.answers); carry = rw e a.carry }

take_one : (n b : ℕ) (bs : List ℕ) → take (1 + n) (b ∷ bs) ≡ b ∷ take n bs
take_one n b bs = let e : 1 + n ≡ suc n = omega arith in rw e

-- the same of what a call uses of the block that begins with this byte
byte_used :
    (w : Console) (c : List ℕ) (b : ℕ) (bs : List ℕ) (f : Feeding) → eqb b line_feed ≡ false →
    Answered w (cut (c ++ (b ∷ []))) (take f.taken bs) f → Answered w c (take (1 + f.taken) (b ∷ bs)) (onward 1 [] f)
byte_used w c b bs f e a = rw (take_one f.taken b bs) (byte_answered w c b (take f.taken bs) f e a)

line_used :
    (w : Console) (c : List ℕ) (b : ℕ) (bs : List ℕ) (f : Feeding) → eqb b line_feed ≡ true →
    Answered (next w c) [] (take f.taken bs) f → Answered w c (take (1 + f.taken) (b ∷ bs)) (onward 1 (reply w c) f)
line_used w c b bs f e a = rw (take_one f.taken b bs) (line_answered w c b (take f.taken bs) f e a)

-- and of one of two calls, by a test
used_by :
    (w : Console) (c t : List ℕ) (x : Bool) (f g : Feeding) → (x ≡ true → Answered w c (take f.taken t) f) →
    (x ≡ false → Answered w c (take g.taken t) g) → Answered w c (take (cond x f g).taken t) (cond x f g)
used_by w c t true f g p q = p refl
used_by w c t false f g p q = q refl

going_answered : (w : Console) (c t : List ℕ) (room : ℕ) → Answered w c (take (going w c t room).taken t) (going w c t room)
unfolding going
going_answered w c [] room = none_answered w c
going_answered w c (b ∷ bs) room =
    used_by w c (b ∷ bs) (eqb b line_feed) (onward 1 (reply w c) ended_here) (onward 1 [] goes_on)
    (λ e. line_used w c b bs ended_here e
    (used_by (next w c) [] bs (ltb left enough) (still (next w c) []) (going (next w c) [] bs left) (λ s. none_answered (next w c) [])
    (λ s. going_answered (next w c) [] bs left)))
    (λ e. byte_used w c b bs goes_on e (going_answered w (cut (c ++ (b ∷ []))) bs room))
  where
    left : ℕ
    left = room - length (reply w c)

    ended_here : Feeding
    ended_here = cond (ltb left enough) (still (next w c) []) (going (next w c) [] bs left)

    goes_on : Feeding
    goes_on = going w (cut (c ++ (b ∷ []))) bs room

pub feed_answered : (w : Console) (c t : List ℕ) (room : ℕ) → Answered w c (take (feed_of w c t room).taken t) (feed_of w c t room)
unfolding feed_of
feed_answered w c t room = go (ltb room enough) refl
  where
    go : (s : Bool) → ltb room enough ≡ s → Answered w c (take (feed_of w c t room).taken t) (feed_of w c t room)
    go true s = rw s (none_answered w c)
    go false s = rw s (going_answered w c t room)

-- with room for an answer a call uses at least one byte
pub feed_moves : (w : Console) (c t : List ℕ) (room : ℕ) → enough ≤ room → 0 < length t → 0 < (feed_of w c t room).taken
unfolding feed_of going
feed_moves w c [] room h l = absurd (omega arith)
feed_moves w c (b ∷ bs) room h l = rw (le-ltb room enough h) (go (eqb b line_feed) refl)
  where
    go : (e : Bool) → eqb b line_feed ≡ e → 0 < (going w c (b ∷ bs) room).taken
    go true e = rw e (omega arith)
    go false e = rw e (omega arith)

-- as a caller sees it
pub held_moves :
    (w : Console) (c piece : List ℕ) (from : ℕ) (out out₀ : List ℕ) (r : FedResult) (d : Desk) (m held : List ℕ)
    (used : ℕ) (o : List ℕ) →
    HeldOutcome (fed_from w c piece from out) piece from out₀ r d m held used o → enough ≤ length out → from < length piece →
    from < r.next
held_moves w c piece from out out₀ r d m held used o a room l =
    omega (
      arith,
      ap (λ (x : FedResult). x.next) a.result,
      feed_moves w c (drop from piece) (length out) room (rw (length-drop from piece) (omega arith)),
    )

pub next_moves :
    (w : Console) (c piece : List ℕ) (from : ℕ) (out out₀ : List ℕ) (r : FedResult) (d : Desk) (m : List ℕ) (k : Carry) (o : List ℕ) →
    Outcome (fed_from w c piece from out) piece from out₀ r d m k o → enough ≤ length out → from < length piece → from < r.next
next_moves w c piece from out out₀ r d m k o a room l = held_moves w c piece from out out₀ r d m k.held k.used o a room l

-- and where it leaves a part of the block, the room is short
going_waits : (w : Console) (c t : List ℕ) (room : ℕ) → (going w c t room).taken < length t →
    room - length (going w c t room).answers < enough
unfolding going
going_waits w c [] room = λ h. absurd (omega arith)
going_waits w c (b ∷ bs) room =
    go (eqb b line_feed) refl (ltb (room - length (reply w c)) enough) refl (going_waits (next w c) [] bs (room - length (reply w c)))
    (going_waits w (cut (c ++ (b ∷ []))) bs room)
  where
    ended_here : Feeding
    ended_here = going (next w c) [] bs (room - length (reply w c))

    goes_on : Feeding
    goes_on = going w (cut (c ++ (b ∷ []))) bs room

    go :
        (e : Bool) → eqb b line_feed ≡ e → (s : Bool) → ltb (room - length (reply w c)) enough ≡ s →
        (ended_here.taken < length bs → room - length (reply w c) - length ended_here.answers < enough) →
        (goes_on.taken < length bs → room - length goes_on.answers < enough) →
        (going w c (b ∷ bs) room).taken < suc (length bs) → room - length (going w c (b ∷ bs) room).answers < enough
    go true e true s f g = rw (e, s, append-nil (reply w c)) (λ h. ltb-true (room - length (reply w c)) enough s)
    go true e false s f g =
        rw (e, s, length-append (reply w c) ended_here.answers) (λ h. omega (arith, f (omega arith)))
    go false e s r f g = rw e (λ h. g (omega arith))

pub feed_waits : (w : Console) (c t : List ℕ) (room : ℕ) → (feed_of w c t room).taken < length t →
    room - length (feed_of w c t room).answers < enough
unfolding feed_of
feed_waits w c t room = go (ltb room enough) refl
  where
    go : (s : Bool) → ltb room enough ≡ s → (feed_of w c t room).taken < length t → room - length (feed_of w c t room).answers < enough
    go true s = rw s (λ h. omega (arith, ltb-true room enough s))
    go false s = rw s (going_waits w c t room)

-- ## Calls one after another, and the whole text

pub answered_append :
    (w : Console) (c x y : List ℕ) (f g : Feeding) → Answered w c x f → Answered f.console f.carry y g →
    Answered w c (x ++ y) (onward f.taken f.answers g)
answered_append w c x y f g a b =
    let first = (fed c x).lines in
    let second = (fed (fed c x).carry y).lines in
    record {
      console = rw (fed_append c x y) (rw (a.console, a.carry) at b.console ∙ sym (console_append w first second));
      answers = rw (fed_append c x y) (rw (a.answers, rw (a.console, a.carry) at b.answers) (sym (answers_append w first second)));
      carry = rw (fed_append c x y) (rw a.carry at b.carry);
    }

-- however a text was divided, the answers, the console and the carry are the same
pub any_division :
    (w : Console) (c x : List ℕ) (f g : Feeding) → Answered w c x f → Answered w c x g →
    (f.console ≡ g.console) × (f.answers ≡ g.answers) × (f.carry ≡ g.carry)
any_division w c x f g a b = (a.console ∙ sym b.console, a.answers ∙ sym b.answers, a.carry ∙ sym b.carry)

-- lines that are answered cut are answered
cut_next : (w : Console) (l : List ℕ) → next w (cut l) ≡ next w l
cut_next w l = rw (line_cut w.desk w.memory l)

cut_reply : (w : Console) (l : List ℕ) → reply w (cut l) ≡ reply w l
cut_reply w l = ap (λ (t : Turn). t.answer) (line_cut w.desk w.memory l)

answers_cut : (w : Console) (ls : List (List ℕ)) → answers_to w (map cut ls) ≡ answers_to w ls
unfolding answers_to
answers_cut w [] = refl
answers_cut w (l ∷ ls) = rw (cut_reply w l, cut_next w l) (ap (λ (x : List ℕ). reply w l ++ x) (answers_cut (next w l) ls))

-- a whole text from the empty carry, its last line without its end too: the answers are those to its lines, one after another
pub session :
    (w : Console) (t : List ℕ) (f : Feeding) → Answered w [] t f →
    f.answers ++ answers_to f.console (ended f.carry) ≡ answers_to w (lines_of t)
session w t f a =
    rw (a.answers, a.console, a.carry)
    (sym (answers_append w (fed [] t).lines (ended (fed [] t).carry)) ∙ ap (answers_to w) (whole_lines t) ∙ answers_cut w (lines_of t))
