-- `texts::declaration`.
use Rattle.std.specs.Prelude.{◌≡◌}
use Rattle.common.specs.Words.{rules, ap, ◌∙◌}
use Rattle.rows.specs.States.{State, state_of, does}
use Rattle.rows.specs.Laws.{fresh, with_props, does_apart}
use Rattle.texts.specs.Texts.{chosen, declaration}
use Rattle.texts.proofs.declaration.Goals as goal

pub with_props-fresh-requires : goal.with_props-fresh-requires
unfolding declaration
with_props-fresh-requires c = search rules

pub chosen-requires : goal.chosen-requires
unfolding declaration
chosen-requires c = search rules

pub with_props-requires : goal.with_props-requires
unfolding declaration
with_props-requires c = search rules

pub shape_of-rows : goal.shape_of-rows
unfolding declaration
shape_of-rows c = search rules

pub returns : goal.returns
unfolding declaration
returns c =
    let a = c.args in
    let p = a.text.now in let s = state_of p a.reading a.rows.now in
    let e : state_of p c.with_props-fresh.result a.rows.now ≡ fresh s = rw c.with_props-fresh.ensures in
    let f : state_of p c.chosen.result c.chosen.new.rows ≡ does (fresh s) chosen =
    c.chosen.ensures ∙ ap (λ (t : State). does t chosen) e in
    rw c.with_props.ensures (ap (λ (t : State). with_props s.props t) f ∙ does_apart s chosen)
