-- `properties::form`: by the property.
use Rattle.common.specs.Words.{rules, refl, ap, ◌∙◌}
use Rattle.steps.specs.Faults.{worst}
use Rattle.steps.specs.Lifted.{lift}
use Rattle.properties.specs.Properties.{right_by}
use Rattle.properties.specs.Laws.{form_time, form_offset, form_priority, form_name}
use Rattle.properties.proofs.form.Goals as goal

pub time-requires : goal.time-requires
unfolding worst
time-requires c = search rules

pub returns-then-property-lt-PROTOCOL : goal.returns-then-property-lt-PROTOCOL
unfolding worst
returns-then-property-lt-PROTOCOL c =
    let a = c.args in
    rw (form_time a.property (lift a.text.now a.went) (search rules)) c.time.ensures

pub value-requires : goal.value-requires
unfolding worst
value-requires c = search rules

pub returns-then-property-eq-OFFSET : goal.returns-then-property-eq-OFFSET
unfolding worst
returns-then-property-eq-OFFSET c =
    let a = c.args in
    rw (form_offset a.property (lift a.text.now a.went) c.if-property-eq-OFFSET.true)
    (record { went = c.value.ensures; value = refl; fault = refl })

pub priority-requires : goal.priority-requires
unfolding worst
priority-requires c = search rules

pub returns-then-property-eq-PRIORITY : goal.returns-then-property-eq-PRIORITY
unfolding worst
returns-then-property-eq-PRIORITY c =
    let a = c.args in
    rw (form_priority a.property (lift a.text.now a.went) c.if-property-eq-PRIORITY.true) c.priority.ensures

pub name-requires : goal.name-requires
unfolding worst
name-requires c = search rules

pub next-requires : goal.next-requires
unfolding worst
next-requires c = search rules

pub rightness-requires : goal.rightness-requires
unfolding worst
rightness-requires c = search rules

pub returns : goal.returns
unfolding worst
returns c =
    let a = c.args in
    rw (form_name a.property (lift a.text.now a.went) (search rules) c.if-property-eq-OFFSET.false c.if-property-eq-PRIORITY.false)
    (record { went = c.name.ensures; value = c.rightness.ensures ∙ ap (right_by a.property) c.next.ensures; fault = refl })
