-- `phrases::skipped`: what is left to pass ends where the whole does.
use Rattle.common.specs.Words.{refl, ◌∙◌}
use Rattle.steps.specs.Steps.{any}
use Rattle.steps.specs.Lifted.{lift}
use Rattle.steps.specs.Laws.{kind_off, many_on, many_off, many_less}
use Rattle.phrases.specs.Phrases.{skip_kind}
use Rattle.phrases.specs.Laws.{skip_advances, skip_on, skipped_then}
use Rattle.phrases.proofs.skipped.Goals as goal

pub loop-w-init : goal.loop-w-init
loop-w-init c = refl

pub loop-w-smaller : goal.loop-w-smaller
loop-w-smaller c =
    let s = lift c.args.text.now c.loop-w.w in
    rw c.any-w-in-loop-w.ensures
    (many_less _ any skip_advances s (skip_on s (rw (← c.next.ensures, ← c.in_section.ensures) c.loop-w-test.true)))

pub loop-w-preserved : goal.loop-w-preserved
loop-w-preserved c =
    let s = lift c.args.text.now c.loop-w.w in
    rw c.any-w-in-loop-w.ensures
    (many_on _ any skip_advances s (skip_on s (rw (← c.next.ensures, ← c.in_section.ensures)
    c.loop-w-test.true)) ∙ c.loop-w.invariant)

pub returns : goal.returns
returns c =
    let a = c.args in let s = lift a.text.now c.loop-w.w in
    many_off _ any skip_advances s (kind_off skip_kind s (rw (← c.next.ensures, ← c.in_section.ensures) c.loop-w-test.false))
    ∙ c.loop-w.invariant ∙ rw c.any-w.ensures (skipped_then (lift a.text.now a.went))
