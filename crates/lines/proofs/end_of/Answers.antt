-- `lines::end_of`: every byte passed is no line feed, so the line ends where it ends from there on.
use Rattle.std.specs.Prelude.{◌≡◌, ◌≤◌}
use Rattle.common.specs.Words.{arith, sym, ◌∙◌, length}
use Rattle.lines.specs.Ends.{end_none, end_here, end_next}
use Rattle.lines.specs.Strides.{skip_ends, skip_within}
use Rattle.lines.proofs.end_of.Goals as goal

pub loop-i-init : goal.loop-i-init
loop-i-init c = rw c.skip-i.ensures (skip_ends _ _)

pub returns-then-piece-i-eq-LINE_FEED : goal.returns-then-piece-i-eq-LINE_FEED
returns-then-piece-i-eq-LINE_FEED c =
    sym (end_here c.args.piece.now c.loop-i.i (omega arith) c.if-piece-i-eq-LINE_FEED.true) ∙ c.loop-i.invariant

pub loop-i-preserved : goal.loop-i-preserved
loop-i-preserved c = end_next c.args.piece.now c.loop-i.i (omega arith) c.if-piece-i-eq-LINE_FEED.false ∙ c.loop-i.invariant

pub returns : goal.returns
returns c =
    let p = c.args.piece.now in
    let w : c.skip-i.result ≤ length p = rw c.skip-i.ensures (skip_within _ _ c.requires) in
    let e : c.loop-i.i ≡ length p = omega (arith, c.loop-i.auto.i-end w) in
    rw e at (sym (end_none p c.loop-i.i (omega arith)) ∙ c.loop-i.invariant)
