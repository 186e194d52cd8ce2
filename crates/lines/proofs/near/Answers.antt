-- `lines::near`: the loop keeps whether a line feed was among the bytes passed.
use Rattle.std.specs.Prelude.{ℕ, List, ◌≡◌, ◌<◌, ◌+◌, ◌-◌, length, get_or, take, drop}
use Rattle.common.specs.Words.{arith, ◌∙◌, sym, length-take, get_or-take, get_or-drop}
use Rattle.lines.specs.Ends.{stride, feed_none, feed_here, feed_next}
use Rattle.lines.proofs.near.Goals as goal
use Rattle.lines.proofs.near.Goals.{then-byte-eq-LINE_FEED, else-byte-eq-LINE_FEED}

-- a byte of the stride is a byte of the block
stride_byte : (p : List ℕ) (from k : ℕ) → k < length (take (from + stride - from) (drop from p)) →
    get_or p (from + k) 0 ≡ get_or (take (from + stride - from) (drop from p)) k 0
stride_byte p from k h =
    let l : k < from + stride - from = omega (arith, length-take (from + stride - from) (drop from p)) in
    rw (get_or-take, get_or-drop)

pub loop-byte-init : goal.loop-byte-init
loop-byte-init c = feed_none _ _

pub loop-byte-preserved : goal.loop-byte-preserved
loop-byte-preserved c =
    let p = c.args.piece.now in
    let from = c.args.from in
    let k = c.loop-byte.byte-index in
    let e = stride_byte p from k c.loop-byte-test.true in
    elim c.if-byte-eq-LINE_FEED.branch [
      | then-byte-eq-LINE_FEED w ↦ w.seen-is ∙ feed_here p from k (e ∙ w.if-byte-eq-LINE_FEED.true)
      | else-byte-eq-LINE_FEED w ↦ w.seen-is ∙ c.loop-byte.invariant ∙ feed_next p from k (rw (sym e) at w.if-byte-eq-LINE_FEED.false)
    ]
