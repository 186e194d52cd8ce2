-- `phrases::path`: what is left to pass ends where the whole does.
use Rattle.common.specs.Words.{refl, ◌∙◌}
use Rattle.steps.specs.Steps.{any, name}
use Rattle.steps.specs.Lifted.{lift}
use Rattle.steps.specs.Laws.{then_then, kind_off, many_on, many_off, many_less}
use Rattle.phrases.specs.Phrases.{join_kind, joint}
use Rattle.phrases.specs.Laws.{joint_advances, join_on, path_then}
use Rattle.phrases.proofs.path.Goals as goal

pub loop-w-init : goal.loop-w-init
loop-w-init c = refl

pub loop-w-smaller : goal.loop-w-smaller
loop-w-smaller c =
    let s = lift c.args.text.now c.loop-w.w in
    rw (c.name-w-in-loop-w.ensures, c.any.ensures, then_then s any name)
    (many_less _ joint joint_advances s (join_on s (rw (← c.next.ensures, ← c.joins.ensures) c.loop-w-test.true)))

pub loop-w-preserved : goal.loop-w-preserved
loop-w-preserved c =
    let s = lift c.args.text.now c.loop-w.w in
    rw (c.name-w-in-loop-w.ensures, c.any.ensures, then_then s any name)
    (many_on _ joint joint_advances s (join_on s (rw (← c.next.ensures, ← c.joins.ensures) c.loop-w-test.true))
    ∙ c.loop-w.invariant)

pub returns : goal.returns
returns c =
    let a = c.args in let s = lift a.text.now c.loop-w.w in
    many_off _ joint joint_advances s (kind_off join_kind s (rw (← c.next.ensures, ← c.joins.ensures) c.loop-w-test.false))
    ∙ c.loop-w.invariant ∙ rw c.name-w.ensures (path_then (lift a.text.now a.went))
