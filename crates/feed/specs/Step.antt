-- Lines that are cut, and a part of the output buffer: what is written at its start stands in the whole at its place.
use Rattle.std.specs.Prelude.{◌+◌, ◌-◌, ◌≤◌, ◌++◌, ◌≡◌}
use Rattle.common.specs.Words.{ℕ, arith, List, append_assoc, append-nil, ap, length, take, drop, length-drop, drop_of_length-le, sets, sets-eq}
use Rattle.common.specs.Words.{take_all, drop-drop}
use borrow.Rule.Slice.PartMut.{mid_of, put_mid}
use Rattle.desk.specs.declared.Desk.{Desk}
use Rattle.desk.specs.Desk.{line_turn}
use Rattle.lines.specs.Lines.{carry_limit, cut}
use Rattle.console.specs.LongLines.{line_taken}

-- a line that is cut is answered as the whole line is
pub line_cut : (d : Desk) (m line : List ℕ) → line_turn d m (cut line) ≡ line_turn d m line
unfolding cut
line_cut d m line = line_taken d m line carry_limit (omega arith)

-- ## A part of a buffer, from a place to the end

pub part_rest : (xs : List ℕ) (i : ℕ) → take (length xs - i) (drop i xs) ≡ drop i xs
part_rest xs i = take_all (length xs - i) (drop i xs) (omega (arith, length-drop i xs))

pub room_of : (out : List ℕ) (w : ℕ) → length (mid_of w (length out - w) out) ≡ length out - w
room_of out w = rw (part_rest out w) (length-drop w out)

-- what is stored at the start of a part is stored in the whole, at the part's place
pub put_sets :
    (out xs : List ℕ) (w : ℕ) → w + length xs ≤ length out →
    put_mid w (length out - w) out (sets (mid_of w (length out - w) out) 0 xs) ≡ sets out w xs
put_sets out xs w h =
    let n : length (drop w out) ≡ length out - w = length-drop w out in
    let m : 0 + length xs ≡ length xs = omega arith in
    rw (
      part_rest out w,
      drop_of_length-le (drop w out) {i = length out - w} (omega arith),
      append-nil (sets (drop w out) 0 xs),
      sets-eq xs (drop w out) 0 (omega arith),
      sets-eq xs out w h,
      append_assoc (take w out) xs (drop (w + length xs) out),
      m,
    )
    (ap (λ (l : List ℕ). take w out ++ (xs ++ l)) (drop-drop (length xs) w out))
