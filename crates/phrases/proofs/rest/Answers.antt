-- `phrases::rest`: what is left to pass ends where the whole does.
use Rattle.common.specs.Words.{refl, ◌∙◌}
use Rattle.steps.specs.Steps.{any}
use Rattle.steps.specs.Lifted.{lift}
use Rattle.steps.specs.Laws.{kind_off, many_on, many_off, many_less}
use Rattle.phrases.specs.Phrases.{rest_kind}
use Rattle.phrases.specs.Laws.{rest_advances, rest_on, rest_then}
use Rattle.phrases.proofs.rest.Goals as goal

pub loop-w-init : goal.loop-w-init
loop-w-init c = refl

pub loop-w-smaller : goal.loop-w-smaller
loop-w-smaller c =
    let s = lift c.args.text.now c.loop-w.w in
    rw c.any-w.ensures
    (many_less _ any rest_advances s (rest_on s (rw (← c.next.ensures, ← c.in_rest.ensures) c.loop-w-test.true)))

pub loop-w-preserved : goal.loop-w-preserved
loop-w-preserved c =
    let s = lift c.args.text.now c.loop-w.w in
    rw c.any-w.ensures
    (many_on _ any rest_advances s (rest_on s (rw (← c.next.ensures, ← c.in_rest.ensures) c.loop-w-test.true)) ∙ c.loop-w.invariant)

pub returns : goal.returns
returns c =
    let a = c.args in let s = lift a.text.now c.loop-w.w in
    let h = kind_off rest_kind s (rw (← c.next.ensures, ← c.in_rest.ensures) c.loop-w-test.false) in
    rw (c.symbol.ensures, c.maybe_block.ensures, many_off _ any rest_advances s h ∙ c.loop-w.invariant)
    (rest_then (lift a.text.now a.went))
