-- The turns of the code's loop: what is done, and what is left to be done, make the whole.
use Rattle.std.specs.Prelude.{◌+◌, ◌-◌, ◌<◌, ◌≤◌, ◌++◌, ◌≡◌}
use Rattle.common.specs.Words.{ℕ, suc, arith, zero-add, List, [], append-nil, refl, sym, ap, ◌∙◌, length, take, drop, length-take}
use Rattle.common.specs.Words.{length-drop, length-append, sets, length-sets, sets-eq, length-take-le, take_at, drop-drop, lt-ltb, le-ltb}
use borrow.Rule.Slice.PartMut.{mid_of, put_mid}
use Rattle.common.specs.Stores.{part, sets_append}
use Rattle.desk.specs.declared.Desk.{Desk}
use Rattle.desk.specs.Desk.{line_turn, bytes_turn, Takes}
use Rattle.console.specs.Framing.{framed_bytes, line_framed}
use Rattle.console.specs.SoundDesk.{SoundDesk, line_keeps}
use Rattle.lines.specs.Lines.{carry_limit, cut}
use Rattle.lines.specs.Whole.{cut_short}
use Rattle.lines.specs.Ends.{run, end_of, run_le}
use Rattle.lines.specs.Held.{carried_of, held_of, held_carry}
use Rattle.feed.specs.Answers.{Console, next, reply}
use Rattle.feed.specs.Feed.{enough, Feeding, onward, feed_of}
use Rattle.feed.specs.Laws.{line_fed, onward_onward, going_line, going_tail}
use Rattle.console.specs.Fits.{answer_fits}
use Rattle.feed.specs.Step.{put_sets}
use Rattle.feed.specs.Outcome.{console_of, HeldOutcome}

-- ## Answers in the output buffer

-- the first w bytes are answers, and the others as they were
pub record Stored (out₀ out : List ℕ) (w : ℕ) : Type 0 where
  pub fits : w ≤ length out
  pub size : length out ≡ length out₀
  pub is : out ≡ sets out₀ 0 (take w out)

pub stored_none : (out : List ℕ) → Stored out out 0
stored_none out = record { fits = omega arith; size = refl; is = refl }

pub stored_take : (out xs : List ℕ) (w : ℕ) → w + length xs ≤ length out → take (w + length xs) (sets out w xs) ≡ take w out ++ xs
stored_take out xs w h =
    let e : length (take w out) ≡ w = length-take-le w out (omega arith) in
    rw (sets-eq xs out w h) (take_at (take w out ++ xs) (drop (w + length xs) out) (w + length xs) (omega (arith, e, length-append (take w out) xs)))

pub stored_more : {out₀ out : List ℕ} {w : ℕ} (xs : List ℕ) → Stored out₀ out w → w + length xs ≤ length out →
    Stored out₀ (sets out w xs) (w + length xs)
stored_more {out₀} {out} {w} xs s h =
    let e : length (take w out) ≡ w = length-take-le w out s.fits in
    record {
      fits = rw (length-sets out w xs) h;
      size = length-sets out w xs ∙ s.size;
      is = rw (stored_take out xs w h, sets_append (take w out) xs out₀ 0, e, zero-add w, ← s.is);
    }

-- ## The loop

pub record Underway (f : Feeding) (piece : List ℕ) (from : ℕ) (out₀ memory held out : List ℕ) (d : Desk) (u at w : ℕ) : Type 0 where
  pub past : from ≤ at
  pub inside : at ≤ length piece
  pub used_fits : u ≤ carry_limit
  pub held_fits : carry_limit ≤ length held
  pub stored : Stored out₀ out w
  pub sound : SoundDesk d
  pub left : f ≡ onward (at - from) (take w out) (feed_of (console_of d memory) (take u held) (drop at piece) (length out - w))

pub underway_first :
    (piece : List ℕ) (from : ℕ) (memory held out : List ℕ) (d : Desk) (u : ℕ) → from ≤ length piece → u ≤ carry_limit →
    carry_limit ≤ length held → SoundDesk d →
    Underway (feed_of (console_of d memory) (take u held) (drop from piece) (length out)) piece from out memory held out d u from 0
underway_first piece from memory held out d u a b h s =
    let e : from - from ≡ 0 = omega arith in
    let g : length out - 0 ≡ length out = omega arith in
    let z = feed_of (console_of d memory) (take u held) (drop from piece) (length out) in
    record {
      past = omega arith;
      inside = a;
      used_fits = b;
      held_fits = h;
      stored = stored_none out;
      sound = s;
      left = rw (e, g, zero-add z.taken);
    }

-- a turn as the code takes it, on the bytes of a line: the desk and the memory after it, how many bytes were written, and what it leaves of
-- the rest of the output buffer
pub record Turned (d : Desk) (memory bytes out : List ℕ) (w : ℕ) : Type 0 where
  pub desk' : Desk
  pub written : ℕ
  pub memory' : List ℕ
  pub rest' : List ℕ
  pub takes : Takes (bytes_turn d memory bytes) (mid_of w (length out - w) out) desk' written memory' rest'

-- it writes no more than there is room for
pub turn_fits : (d : Desk) (memory line rest : List ℕ) {bytes : List ℕ} {d' : Desk} {n : ℕ} {memory' rest' : List ℕ} →
    bytes ≡ framed_bytes line → Takes (bytes_turn d memory bytes) rest d' n memory' rest' → n ≤ enough
turn_fits d memory line rest {n = n} b t =
    let s : n ≡ length (line_turn d memory line).answer = rw (line_framed d memory line, ← b) t.1 in
    omega (arith, s, answer_fits d memory line)

-- with room and a line end, feeding goes on with the line
going_on :
    (w : Console) (c t line : List ℕ) (room : ℕ) → enough ≤ room → run t < length t → line ≡ cut (c ++ take (run t) t) →
    cut c ≡ c →
    feed_of w c t room ≡ line_fed w line t room
unfolding feed_of
going_on w c t line room h l e s = rw (le-ltb room enough h, e) (going_line w c t room s l)

same_feeding :
    (w : Console) {j k : ℕ} {xs ys c t u : List ℕ} {m n : ℕ} → j ≡ k → xs ≡ ys → [] ≡ c → t ≡ u → m ≡ n →
    onward j xs (feed_of w [] t m) ≡ onward k ys (feed_of w c u n)
same_feeding w a b e c d = rw (a, b, ← e, c, d)

module _ {f : Feeding} {piece : List ℕ} {from : ℕ} {out₀ memory held out : List ℕ} {d : Desk} {u at w : ℕ}
    (t : Underway f piece from out₀ memory held out d u at w) where
  carry_short : cut (take u held) ≡ take u held
  carry_short = cut_short (take u held) (omega (arith, length-take u held, t.used_fits))

  -- nothing more is answered: what is left is the carry, and n bytes that it took
  finish :
      (n used' : ℕ) (held' : List ℕ) →
      f ≡ record { console = console_of d memory; carry = take used' held'; taken = at - from + n; answers = take w out ++ [] } →
      used' ≤ length held' → at + n ≤ length piece →
      HeldOutcome f piece from out₀ (record { next = at + n; written = w }) d memory held' used' out
  finish n used' held' e b h =
      let u : length (take used' held') ≡ used' = length-take-le used' held' b in
      let m : length (take w out) ≡ w = length-take-le w out t.stored.fits in
      let a : from + (at - from + n) ≡ at + n = omega (arith, t.past) in
      rw (e, append-nil (take w out))
      (record {
        result = rw (m, a);
        desk_is = refl;
        memory_is = refl;
        used_is = sym u;
        carry_is = refl;
        out_is = t.stored.is;
        next_fits = h;
        written_fits = omega (arith, t.stored.fits, t.stored.size);
      })

  -- the room is short
  pub turn_short : length out - w < enough → HeldOutcome f piece from out₀ (record { next = at; written = w }) d memory held u out
  unfolding feed_of
  turn_short h =
      let a : at + 0 ≡ at = omega arith in
      rw a at
      (finish 0 u held (rw (lt-ltb (length out - w) enough h) at t.left) (omega (arith, t.used_fits, t.held_fits)) (omega (arith, t.inside)))

  -- no line ends in the rest of the block
  pub turn_tail :
      {held' : List ℕ} {used' : ℕ} → used' ≡ carried_of u (drop at piece) → held' ≡ held_of held u (drop at piece) →
      enough ≤ length out - w → length piece ≤ end_of piece at →
      HeldOutcome f piece from out₀ (record { next = end_of piece at; written = w }) d memory held' used' out
  unfolding feed_of end_of held_of
  turn_tail n s h e =
      let xs = drop at piece in
      let a : end_of piece at ≡ at + length xs = omega (arith, run_le xs, length-drop at piece, t.inside) in
      let g : feed_of (console_of d memory) (take u held) xs (length out - w)
      ≡ record { console = console_of d memory; carry = cut (take u held ++ xs); taken = length xs; answers = [] } =
      rw (le-ltb (length out - w) enough h)
      (going_tail (console_of d memory) (take u held) xs (length out - w) carry_short (omega (arith, length-drop at piece))) in
      rw (n, s, a)
      (finish (length xs) (carried_of u xs) (held_of held u xs)
      (t.left ∙ ap (onward (at - from) (take w out)) g ∙ rw (held_carry held u xs t.used_fits t.held_fits))
      (omega (arith, t.held_fits, length-sets held u (take (carry_limit - u) xs))) (omega (arith, length-drop at piece, t.inside)))

  -- a line ends in it, and is answered
  pub turn_line :
      (line held' : List ℕ) (used' : ℕ) → enough ≤ length out - w → end_of piece at < length piece →
      line ≡ cut (take u held ++ take (end_of piece at - at) (drop at piece)) → carry_limit ≤ length held' → used' ≡ 0 →
      length (reply (console_of d memory) line) ≤ enough →
      let v = next (console_of d memory) line in
      let xs = reply (console_of d memory) line in
      Underway f piece from out₀ v.memory held' (sets out w xs) v.desk used' (end_of piece at + 1) (w + length xs)
  unfolding end_of
  turn_line line held' used' h e l k z b =
      let p = drop at piece in
      let xs = reply (console_of d memory) line in
      let room = length out - w in
      let fits : w + length xs ≤ length out = omega (arith, t.stored.fits) in
      let n : end_of piece at - at ≡ run p = omega arith in
      let m : at + suc (run p) ≡ end_of piece at + 1 = omega arith in
      let none : [] ≡ take used' held' = rw z in
      let g : feed_of (console_of d memory) (take u held) p room ≡ line_fed (console_of d memory) line p room =
      going_on (console_of d memory) (take u held) p line room h (omega (arith, length-drop at piece)) (rw n at l) carry_short in
      record {
        past = omega (arith, t.past);
        inside = omega arith;
        used_fits = omega arith;
        held_fits = k;
        stored = stored_more xs t.stored fits;
        sound = line_keeps d memory line t.sound;
        left =
            t.left ∙ ap (onward (at - from) (take w out)) g ∙ onward_onward (at - from) (suc (run p)) (take w out) xs _
            ∙ same_feeding (next (console_of d memory) line) (omega (arith, t.past)) (sym (stored_take out xs w fits)) none
            (drop-drop (suc (run p)) at piece ∙ ap (λ (i : ℕ). drop i piece) m)
            (omega (arith, length-sets out w xs));
      }

  -- the line is answered as the code does it
  pub turn_step :
      {bytes line held' : List ℕ} {used' : ℕ} (x : Turned d memory bytes out w) (e : ℕ) → enough ≤ length out - w →
      e ≡ end_of piece at → e < length piece →
      bytes ≡ framed_bytes line → line ≡ cut (take u held ++ part piece at (e - at)) → carry_limit ≤ length held' → used' ≡ 0 →
      Underway f piece from out₀ x.memory' held' (put_mid w (length out - w) out x.rest') x.desk' used' (e + 1) (w + x.written)
  turn_step {line = line} {held' = held'} {used' = used'} x e h a i b l k z =
      let xs = reply (console_of d memory) line in
      let s : Takes (line_turn d memory line) (mid_of w (length out - w) out) x.desk' x.written x.memory' x.rest' =
      rw (line_framed d memory line, ← b) x.takes in
      let o : put_mid w (length out - w) out x.rest' ≡ sets out w xs =
      ap (put_mid w (length out - w) out) s.3 ∙ put_sets out xs w (omega (arith, answer_fits d memory line, t.stored.fits)) in
      rw (s.0, s.1, s.2, o, a) (turn_line line held' used' h (rw a at i) (rw a at l) k z (answer_fits d memory line))
