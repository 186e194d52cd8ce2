-- `texts::parts`: what is left to read says what the whole does.
use Rattle.common.specs.Words.{rules, refl, ap, ◌∙◌}
use Rattle.rows.specs.States.{State, state_of}
use Rattle.rows.specs.Laws.{repeat_on, repeat_off, repeat_less}
use Rattle.texts.specs.Texts.{begins_part, part, parts}
use Rattle.texts.specs.Laws.{part_on, part_off, part_advances}
use Rattle.texts.proofs.parts.Goals as goal

pub loop-rows-init : goal.loop-rows-init
loop-rows-init c = (refl, refl)

pub loop-rows-smaller : goal.loop-rows-smaller
loop-rows-smaller c =
    let a = c.args in
    let s = state_of a.text.now c.loop-rows.r c.loop-rows.rows in
    rw (ap (λ (x : State). x.went) c.part-r.ensures)
    (repeat_less begins_part part part_advances s (part_on s.went
    (rw (← c.next_of.ensures, ← c.begins_part.ensures) c.loop-rows-test.true)))

pub loop-rows-preserved : goal.loop-rows-preserved
unfolding parts
loop-rows-preserved c =
    let a = c.args in
    let s = state_of a.text.now c.loop-rows.r c.loop-rows.rows in (
      rw c.part-r.ensures
          (repeat_on begins_part part part_advances s (part_on s.went
          (rw (← c.next_of.ensures, ← c.begins_part.ensures) c.loop-rows-test.true))
          ∙ c.loop-rows.invariant.0),
      search rules,
    )

pub shape_of-rows : goal.shape_of-rows
shape_of-rows c = c.loop-rows.invariant.1

pub returns : goal.returns
unfolding parts
returns c =
    let a = c.args in
    let s = state_of a.text.now c.loop-rows.r c.loop-rows.rows in
    repeat_off begins_part part part_advances s (part_off s.went (rw (← c.next_of.ensures, ← c.begins_part.ensures) c.loop-rows-test.false))
    ∙ c.loop-rows.invariant.0
