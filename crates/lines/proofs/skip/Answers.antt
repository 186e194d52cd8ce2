-- `lines::skip`: every stride passed is a whole one without a line feed, and the loop stops at the first place where none stands.
use Rattle.std.specs.Prelude.{◌+◌, ◌<◌, ◌≤◌}
use Rattle.common.specs.Words.{rules, sym, ◌∙◌, length, lt-leb, le-leb}
use Rattle.lines.specs.Ends.{stride}
use Rattle.lines.specs.Strides.{passed_none, passed_more, passed_all}
use Rattle.lines.proofs.skip.Goals as goal

pub loop-i-init : goal.loop-i-init
loop-i-init c = (passed_none _ _, c.requires)

pub returns-then-near : goal.returns-then-near
returns-then-near c =
    let l = c in
    let p = l.args.piece.now in
    let h : l.loop-i.i + stride ≤ length p = search rules in
    passed_all p _ l.loop-i.invariant.0 (rw (le-leb (l.loop-i.i + stride) (length p) h, sym c.near.ensures ∙ c.if-near.true))

pub loop-i-preserved : goal.loop-i-preserved
loop-i-preserved c =
    let l = c in
    let free = sym c.near.ensures ∙ c.if-near.false in
    (passed_more l.args.piece.now _ l.loop-i.invariant.0 (search rules) free, search rules)

pub returns : goal.returns
returns c =
    let l = c in
    let p = l.args.piece.now in
    let h : length p < l.loop-i.i + stride = search rules in
    passed_all p _ l.loop-i.invariant.0 (rw (lt-leb (l.loop-i.i + stride) (length p) h))
