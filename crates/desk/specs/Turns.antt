-- Turns as the code takes them: what each test that it makes says of the turn. Here are the rows of 01 and 02, and a frame; 03 is in
-- Starts.antt, 04 and 05 in CallLines.antt.
use Rattle.std.specs.Prelude.{◌<◌, ◌&&◌, ◌≡◌}
use Rattle.common.specs.Words.{ℕ, Bool, true, false, true≢false, cond, not, List, refl, sym, ap, ◌∙◌, leb, leb-false, not-true}
use Rattle.frames.specs.Frames.{frame_of, payload_in}
use Rattle.frames.specs.Writing.{Written}
use Rattle.desk.specs.Types.{Frame, Desk}
use Rattle.desk.specs.Desk.{Turn, silent, says, bad, row_turn, frame_turn, bytes_turn, Takes}

pub when_true : {A : Type 0} {b : Bool} (x y : A) → b ≡ true → cond b x y ≡ x
when_true x y h = ap (λ (b : Bool). cond b x y) h

pub when_false : {A : Type 0} {b : Bool} (x y : A) → b ≡ false → cond b x y ≡ y
when_false x y h = ap (λ (b : Bool). cond b x y) h

-- a line was written, and the desk and the memory are known
pub written : (d : Desk) (m bytes out out' : List ℕ) (n : ℕ) → Written bytes out n out' → Takes (says d m bytes) out d n m out'
written d m bytes out out' n w = (refl, w.0, refl, w.1)

-- ## 01 and 02

-- nothing runs, and there is room
abbrev pub takes_row : Bool → Bool → Bool
takes_row running full = not running && not full

pub room_for : (running : Bool) (rows most : ℕ) → takes_row running (leb most rows) ≡ true → rows < most
room_for false rows most h = leb-false most rows (not-true (leb most rows) h)
room_for true rows most h = absurd (true≢false (sym h))

row_by : (b full : Bool) (x y : Turn) → cond b x (cond full x y) ≡ cond (takes_row b full) y x
row_by true full x y = refl
row_by false true x y = refl
row_by false false x y = refl

module _ (d : Desk) (m : List ℕ) (full : Bool) (more : Desk) where
  pub row_refused : takes_row d.running full ≡ false → row_turn d m full more ≡ bad d m
  unfolding row_turn
  row_refused h = row_by d.running full _ _ ∙ when_false _ _ h

  pub row_added : takes_row d.running full ≡ true → row_turn d m full more ≡ silent more m
  unfolding row_turn
  row_added h = row_by d.running full _ _ ∙ when_true _ _ h

-- ## A frame

pub frame_taken : (d : Desk) (m bytes out : List ℕ) {g : Frame} {payload : List ℕ} {next : Desk} {n : ℕ} {memory out' : List ℕ} →
    g ≡ frame_of bytes → payload ≡ payload_in bytes → Takes (frame_turn d m payload g) out next n memory out' →
    Takes (bytes_turn d m bytes) out next n memory out'
unfolding bytes_turn
frame_taken d m bytes out e p x = rw (← e, ← p) x
