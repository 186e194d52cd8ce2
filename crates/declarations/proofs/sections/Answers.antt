-- `declarations::sections`: what is left to read says what the whole does.
use Rattle.rows.specs.Rows.{begun_by}
use Rattle.common.specs.Words.{rules, refl, ap, ◌∙◌}
use Rattle.rows.specs.States.{State, state_of}
use Rattle.rows.specs.Laws.{repeat_on, repeat_off, repeat_less}
use Rattle.declarations.specs.Sections.{begins, section, sections}
use Rattle.declarations.specs.SectionLaws.{begins_on, begins_off, section_advances}
use Rattle.declarations.proofs.sections.Goals as goal

pub loop-of-init : goal.loop-of-init
unfolding sections
loop-of-init c = (refl, refl)

pub loop-of-smaller : goal.loop-of-smaller
unfolding sections
loop-of-smaller c =
    let a = c.args in
    let s = state_of a.text.now c.loop-of.r c.loop-of.rows in
    rw (ap (λ (x : State). x.went) c.section-r.ensures)
    (repeat_less (begins (begun_by a.of)) (section (begun_by a.of) a.place) (section_advances (begun_by a.of) a.place) s
    (begins_on (begun_by a.of) s.went (rw (← c.next_of.ensures, ← c.begins.ensures) c.loop-of-test.true)))

pub loop-of-preserved : goal.loop-of-preserved
unfolding sections
loop-of-preserved c =
    let a = c.args in
    let s = state_of a.text.now c.loop-of.r c.loop-of.rows in (
      rw c.section-r.ensures
          (repeat_on (begins (begun_by a.of)) (section (begun_by a.of) a.place) (section_advances (begun_by a.of) a.place) s
          (begins_on (begun_by a.of) s.went (rw (← c.next_of.ensures, ← c.begins.ensures) c.loop-of-test.true))
          ∙ c.loop-of.invariant.0),
      search rules,
    )

pub shape_of-rows : goal.shape_of-rows
unfolding sections
shape_of-rows c = c.loop-of.invariant.1

pub returns : goal.returns
unfolding sections
returns c =
    let a = c.args in
    let s = state_of a.text.now c.loop-of.r c.loop-of.rows in
    repeat_off (begins (begun_by a.of)) (section (begun_by a.of) a.place) (section_advances (begun_by a.of) a.place) s
    (begins_off (begun_by a.of) s.went (rw (← c.next_of.ensures, ← c.begins.ensures) c.loop-of-test.false))
    ∙ c.loop-of.invariant.0
