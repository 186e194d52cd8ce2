-- `rows::keep`: the numbers stand in their places.
use Rattle.std.specs.Prelude.{◌≡◌, ◌+◌, ◌-◌, ◌*◌, ◌≤◌, ◌++◌}
use borrow.Rule.Slice.PartMut.{put_mid}
use Rattle.common.specs.Words.{ap, ◌∙◌, append_assoc, drop-drop, ℕ, List, arith, length, take, drop, sets, sets-eq, sym, le-leb, lt-leb}
use Rattle.rows.specs.Rows.{with_row}
use Rattle.rows.proofs.keep.Goals as goal

-- numbers that are written over as many from an index on
placed : (l vs : List ℕ) (i k : ℕ) → k ≡ length vs → i + length vs ≤ length l → put_mid i k l vs ≡ sets l i vs
placed l vs i k e h =
    rw e (ap (λ (xs : List ℕ). take i l ++ (vs ++ xs)) (drop-drop (length vs) i l)
    ∙ sym (append_assoc (take i l) vs (drop (i + length vs) l)) ∙ sym (sets-eq vs l i h))

pub returns-then-rows-count : goal.returns-then-rows-count
unfolding with_row
returns-then-rows-count c = let a = c.args in rw (lt-leb (10 * a.count + 10) (length a.rows.now) (omega arith))

pub returns : goal.returns
unfolding with_row
returns c =
    let a = c.args in
    let at = 10 * a.count in
    rw (
      c.copy_from_slice.ensures.after,
      placed a.rows.now a.row at (at + 10 - at) (omega arith) (omega arith),
      le-leb (at + 10) (length a.rows.now) (omega arith),
    )
