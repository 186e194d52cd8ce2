-- `properties::associations_in`: what is left to read says what the whole does.
use Rattle.common.specs.Words.{rules, [], refl, ap, ◌∙◌}
use Rattle.words.specs.Words.{is_name}
use Rattle.steps.specs.Steps.{named}
use Rattle.steps.specs.Laws.{kind_on, kind_off}
use Rattle.rows.specs.States.{State, state_of}
use Rattle.rows.specs.Laws.{advances_on, repeat_on, repeat_off, repeat_less}
use Rattle.properties.specs.Properties.{association_in, associations_in}
use Rattle.properties.specs.Laws.{association_in_moves}
use Rattle.properties.proofs.associations_in.Goals as goal

pub loop-of-init : goal.loop-of-init
unfolding associations_in
loop-of-init c = λ m. refl

pub next_of-requires : goal.next_of-requires
unfolding associations_in
next_of-requires c = search rules

pub is_name-requires : goal.is_name-requires
unfolding associations_in
is_name-requires c = search rules

pub association_in-r-requires : goal.association_in-r-requires
unfolding associations_in
association_in-r-requires c = search rules

pub loop-of-smaller : goal.loop-of-smaller
unfolding associations_in
loop-of-smaller c =
    let a = c.args in let s = state_of a.text.now c.loop-of.r [] in
    rw (ap (λ (x : State). x.went) (c.association_in-r.ensures []))
    (repeat_less named (association_in a.of) (advances_on named (association_in a.of) (association_in_moves a.of)) s
    (kind_on is_name s.went refl (rw (← c.next_of.ensures, ← c.is_name.ensures) c.loop-of-test.true)))

pub loop-of-preserved : goal.loop-of-preserved
unfolding associations_in
loop-of-preserved c =
    let a = c.args in
    λ m. let s = state_of a.text.now c.loop-of.r m in
    rw (c.association_in-r.ensures m)
    (repeat_on named (association_in a.of) (advances_on named (association_in a.of) (association_in_moves a.of)) s
    (kind_on is_name s.went refl (rw (← c.next_of.ensures, ← c.is_name.ensures) c.loop-of-test.true)) ∙ c.loop-of.invariant m)

pub returns : goal.returns
unfolding associations_in
returns c =
    let a = c.args in
    λ m. let s = state_of a.text.now c.loop-of.r m in
    repeat_off named (association_in a.of) (advances_on named (association_in a.of) (association_in_moves a.of)) s
    (kind_off is_name s.went (rw (← c.next_of.ensures, ← c.is_name.ensures) c.loop-of-test.false)) ∙ c.loop-of.invariant m
