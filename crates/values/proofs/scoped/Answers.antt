-- `values::scoped`: what is left to pass ends where the whole does.
use Rattle.words.specs.Same.{told_eq}
use Rattle.common.specs.Words.{refl, ◌∙◌}
use Rattle.words.specs.Kinds.{SCOPE}
use Rattle.steps.specs.Steps.{is, the, name}
use Rattle.steps.specs.Lifted.{lift}
use Rattle.steps.specs.Laws.{then_then, is_on, is_off, advances, many_on, many_off, many_less}
use Rattle.values.specs.Values.{inner}
use Rattle.values.specs.Laws.{inner_moves, scoped_then}
use Rattle.values.proofs.scoped.Goals as goal

pub loop-w-init : goal.loop-w-init
loop-w-init c = refl

pub loop-w-smaller : goal.loop-w-smaller
loop-w-smaller c =
    let s = lift c.args.text.now c.loop-w.w in
    rw (c.name-w-in-loop-w.ensures, c.symbol.ensures, then_then s (the SCOPE) name)
    (many_less (is SCOPE) inner (advances (is SCOPE) inner_moves) s
    (is_on SCOPE s refl (told_eq SCOPE c.next.ensures c.loop-w-test.ensures)))

pub loop-w-preserved : goal.loop-w-preserved
loop-w-preserved c =
    let s = lift c.args.text.now c.loop-w.w in
    rw (c.name-w-in-loop-w.ensures, c.symbol.ensures, then_then s (the SCOPE) name)
    (many_on (is SCOPE) inner (advances (is SCOPE) inner_moves) s
    (is_on SCOPE s refl (told_eq SCOPE c.next.ensures c.loop-w-test.ensures)) ∙ c.loop-w.invariant)

pub returns : goal.returns
returns c =
    let a = c.args in let s = lift a.text.now c.loop-w.w in
    many_off (is SCOPE) inner (advances (is SCOPE) inner_moves) s (is_off SCOPE s (told_eq SCOPE c.next.ensures c.loop-w-test.ensures))
    ∙ c.loop-w.invariant ∙ rw c.name-w.ensures (scoped_then (lift a.text.now a.went))
