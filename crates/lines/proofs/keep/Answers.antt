-- `lines::keep`: the part that is copied stands behind the carry.
use Rattle.std.specs.Prelude.{◌≡◌, ◌+◌, ◌-◌, ◌≤◌}
use Rattle.common.specs.Words.{ℕ, List, arith, min, length, take, length-take}
use borrow.Rule.Slice.PartMut.{put_mid}
use Rattle.lines.specs.Lines.{carry_limit}
use Rattle.lines.specs.Held.{held_of, take_least, put_sets}
use Rattle.lines.proofs.keep.Goals as goal

kept_part :
    (held xs ys : List ℕ) (used n k : ℕ) → n ≡ min (carry_limit - used) (length xs) → k ≡ n → used + n ≤ length held → ys ≡
    take n xs →
    put_mid used k held ys ≡ held_of held used xs
unfolding held_of
kept_part held xs ys used n k e i h f =
    let g : take n xs ≡ take (carry_limit - used) xs = rw e (take_least (carry_limit - used) xs) in
    rw (put_sets held ys used k (rw (i, f) (omega (arith, length-take n xs))) (omega arith), f, g)

pub returns : goal.returns
returns c =
    let a = c.args in (
      omega arith,
      kept_part a.held.now a.xs.now _ a.used c.min-n.result _ (omega arith) (omega arith) (omega arith) c.copy_from_slice.ensures.after,
    )
