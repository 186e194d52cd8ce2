-- `phrases::paths`: what is left to pass ends where the whole does.
use Rattle.words.specs.Same.{told_eq}
use Rattle.common.specs.Words.{refl, ◌∙◌}
use Rattle.words.specs.Kinds.{COMMA}
use Rattle.steps.specs.Steps.{is, the}
use Rattle.steps.specs.Lifted.{lift}
use Rattle.steps.specs.Laws.{then_then, is_on, is_off, many_on, many_off, many_less}
use Rattle.phrases.specs.Phrases.{path, another}
use Rattle.phrases.specs.Laws.{another_advances, paths_then}
use Rattle.phrases.proofs.paths.Goals as goal

pub loop-w-init : goal.loop-w-init
loop-w-init c = refl

pub loop-w-smaller : goal.loop-w-smaller
loop-w-smaller c =
    let s = lift c.args.text.now c.loop-w.w in
    rw (c.path-w-in-loop-w.ensures, c.symbol.ensures, then_then s (the COMMA) path)
    (many_less (is COMMA) another another_advances s (is_on COMMA s refl (told_eq COMMA c.next.ensures c.loop-w-test.ensures)))

pub loop-w-preserved : goal.loop-w-preserved
loop-w-preserved c =
    let s = lift c.args.text.now c.loop-w.w in
    rw (c.path-w-in-loop-w.ensures, c.symbol.ensures, then_then s (the COMMA) path)
    (many_on (is COMMA) another another_advances s (is_on COMMA s refl (told_eq COMMA c.next.ensures c.loop-w-test.ensures))
    ∙ c.loop-w.invariant)

pub returns : goal.returns
returns c =
    let a = c.args in let s = lift a.text.now c.loop-w.w in
    let h = is_off COMMA s (told_eq COMMA c.next.ensures c.loop-w-test.ensures) in
    rw (c.symbol-2.ensures, many_off (is COMMA) another another_advances s h ∙ c.loop-w.invariant, c.path-w.ensures)
    (paths_then (lift a.text.now a.went))
