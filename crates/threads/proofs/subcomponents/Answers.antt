-- `threads::subcomponents`: what is left to read says what the whole does.
use Rattle.common.specs.Words.{rules, refl, ap, ◌∙◌}
use Rattle.words.specs.Words.{is_name}
use Rattle.steps.specs.Steps.{named}
use Rattle.steps.specs.Laws.{kind_on, kind_off}
use Rattle.rows.specs.States.{State, state_of}
use Rattle.rows.specs.Laws.{advances_on, repeat_on, repeat_off, repeat_less}
use Rattle.threads.specs.Threads.{subcomponent, subcomponents}
use Rattle.threads.specs.Laws.{subcomponent_moves}
use Rattle.threads.proofs.subcomponents.Goals as goal

pub loop-rows-init : goal.loop-rows-init
unfolding subcomponents
loop-rows-init c = (refl, refl)

pub loop-rows-smaller : goal.loop-rows-smaller
unfolding subcomponents
loop-rows-smaller c =
    let a = c.args in
    let o = a.process in let s = state_of a.text.now c.loop-rows.r c.loop-rows.rows in
    rw (ap (λ (x : State). x.went) c.subcomponent-r.ensures)
    (repeat_less named (subcomponent o) (advances_on named (subcomponent o) (subcomponent_moves o)) s
    (kind_on is_name s.went refl (rw (← c.next_of.ensures, ← c.is_name.ensures) c.loop-rows-test.true)))

pub loop-rows-preserved : goal.loop-rows-preserved
unfolding subcomponents
loop-rows-preserved c =
    let a = c.args in
    let o = a.process in let s = state_of a.text.now c.loop-rows.r c.loop-rows.rows in (
      rw c.subcomponent-r.ensures
          (repeat_on named (subcomponent o) (advances_on named (subcomponent o) (subcomponent_moves o)) s
          (kind_on is_name s.went refl (rw (← c.next_of.ensures, ← c.is_name.ensures) c.loop-rows-test.true))
          ∙ c.loop-rows.invariant.0),
      search rules,
    )

pub shape_of-rows : goal.shape_of-rows
unfolding subcomponents
shape_of-rows c = c.loop-rows.invariant.1

pub returns : goal.returns
unfolding subcomponents
returns c =
    let a = c.args in
    let o = a.process in let s = state_of a.text.now c.loop-rows.r c.loop-rows.rows in
    repeat_off named (subcomponent o) (advances_on named (subcomponent o) (subcomponent_moves o)) s
    (kind_off is_name s.went (rw (← c.next_of.ensures, ← c.is_name.ensures) c.loop-rows-test.false))
    ∙ c.loop-rows.invariant.0
