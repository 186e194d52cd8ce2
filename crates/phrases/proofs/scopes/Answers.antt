-- `phrases::scopes`: what is left to pass ends where the whole does.
use Rattle.words.specs.Same.{told_eq}
use Rattle.common.specs.Words.{refl, ◌∙◌}
use Rattle.words.specs.Kinds.{SCOPE}
use Rattle.steps.specs.Steps.{the, name}
use Rattle.steps.specs.Lifted.{lift}
use Rattle.steps.specs.Laws.{then_then, many_on, many_off, many_less}
use Rattle.phrases.specs.Phrases.{begins_scope, scope, scopes}
use Rattle.phrases.specs.Laws.{scope_advances, scope_on, scope_off}
use Rattle.phrases.proofs.scopes.Goals as goal

pub loop-w-init : goal.loop-w-init
loop-w-init c = refl

pub loop-w-smaller : goal.loop-w-smaller
loop-w-smaller c =
    let s = lift c.args.text.now c.loop-w.w in
    rw (c.symbol-w.ensures, c.name.ensures, then_then s name (the SCOPE))
    (many_less begins_scope scope scope_advances s (scope_on s (told_eq SCOPE c.second.ensures c.loop-w-test.ensures)))

pub loop-w-preserved : goal.loop-w-preserved
loop-w-preserved c =
    let s = lift c.args.text.now c.loop-w.w in
    rw (c.symbol-w.ensures, c.name.ensures, then_then s name (the SCOPE))
    (many_on begins_scope scope scope_advances s (scope_on s (told_eq SCOPE c.second.ensures c.loop-w-test.ensures)) ∙ c.loop-w.invariant)

pub returns : goal.returns
unfolding scopes
returns c =
    let s = lift c.args.text.now c.loop-w.w in
    many_off begins_scope scope scope_advances s (scope_off s (told_eq SCOPE c.second.ensures c.loop-w-test.ensures)) ∙ c.loop-w.invariant
