-- `others::passed`: what is left to pass says what the whole does, with the least of the words that wait.
use Rattle.common.specs.Words.{[], refl, sym, ap, ◌∙◌, not, not-true, not-false}
use Rattle.words.specs.declared.kinds.Kind.{Kind}
use Rattle.steps.specs.Faults.{worst}
use Rattle.steps.specs.Lifted.{lift}
use Rattle.rows.specs.States.{state_of}
use Rattle.others.specs.Others.{last_kind}
use Rattle.others.specs.Laws.{passing_on, passing_off, passing_less, waits}
use Rattle.others.proofs.passed.Goals as goal

pub loop-waiting-init : goal.loop-waiting-init
unfolding worst
loop-waiting-init c = ([], (refl, λ m. refl))

pub loop-waiting-smaller : goal.loop-waiting-smaller
loop-waiting-smaller c =
    let a = c.args in
    rw (c.on-r.ensures, c.any.ensures)
    (passing_less (lift a.text.now c.loop-waiting.r.went) (not-true _
    (sym (c.goes_on.ensures ∙ ap (λ (k : Kind). not (last_kind k)) c.next_of.ensures) ∙ c.loop-waiting-test.true)))

pub loop-waiting-preserved : goal.loop-waiting-preserved
loop-waiting-preserved c =
    let a = c.args in
    let w = c.loop-waiting.invariant.0 in let e = c.loop-waiting.invariant.1.0 in let p = a.text.now in let k = lift p c.loop-waiting.r.went in (
      waits a.outside w k,
      (
        c.waiting_after-waiting.ensures w e,
        λ m. let s = state_of p c.loop-waiting.r m in
            rw (
              c.on-r.ensures,
              c.any.ensures,
              c.noted_at-behind.ensures w e,
              c.next_of-in-loop-waiting.ensures,
            )
            (passing_on a.outside w s (not-true _ (sym (c.goes_on.ensures
            ∙ ap (λ (k : Kind). not (last_kind k)) c.next_of.ensures) ∙ c.loop-waiting-test.true))
            ∙ c.loop-waiting.invariant.1.1 m),
      ),
    )

pub returns : goal.returns
returns c =
    let a = c.args in
    λ m. let s = state_of a.text.now c.loop-waiting.r m in
    passing_off a.outside c.loop-waiting.invariant.0 s (not-false _ (sym (c.goes_on.ensures
    ∙ ap (λ (k : Kind). not (last_kind k)) c.next_of.ensures) ∙ c.loop-waiting-test.false))
    ∙ c.loop-waiting.invariant.1.1 m
