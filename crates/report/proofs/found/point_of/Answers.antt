-- `report::found::point_of`: a turn goes past one byte more.
use Rattle.std.specs.Prelude.{◌≡◌, ◌≤◌}
use Rattle.common.specs.Words.{refl, ◌∙◌, ap, length, get_or, take, length-take, take_all, arith}
use Rattle.report.specs.Places.{past, behind, point_of}
use Rattle.report.specs.Laws.{point_more, point_low, take_least}
use Rattle.report.proofs.found.point_of.Goals as goal

pub loop-byte-init : goal.loop-byte-init
unfolding behind
loop-byte-init c = refl

pub past-point-requires : goal.past-point-requires
past-point-requires c =
    let before = take c.min.result c.args.text.now in
    let i = c.loop-byte.byte-index in
    let few : length before ≤ length c.args.text.now = omega (arith, length-take c.min.result c.args.text.now) in
    let low = point_low before i in
    rw c.loop-byte.invariant (omega (arith, low.0, c.loop-byte-test.true, few), omega (arith, low.1, c.loop-byte-test.true, few))

pub loop-byte-preserved : goal.loop-byte-preserved
loop-byte-preserved c =
    let before = take c.min.result c.args.text.now in
    let i = c.loop-byte.byte-index in
    c.past-point.ensures ∙ ap (λ p. past p (get_or before i 0)) c.loop-byte.invariant ∙ point_more before i c.loop-byte-test.true

pub returns : goal.returns
returns c =
    let text = c.args.text.now in
    let before = take c.min.result text in
    let whole : take c.loop-byte.byte-index before ≡ before = take_all c.loop-byte.byte-index before c.loop-byte-test.false in
    c.loop-byte.invariant ∙ ap point_of (whole ∙ ap (λ n. take n text) c.min.ensures ∙ take_least c.args.place text)
