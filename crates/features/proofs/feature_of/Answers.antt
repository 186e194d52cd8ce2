-- `features::feature_of`.
use Rattle.std.specs.Prelude.{◌≡◌}
use Rattle.common.specs.Words.{ap, ◌∙◌}
use Rattle.phrases.specs.Phrases.{word_and_rest}
use Rattle.rows.specs.States.{State, state_of, does}
use Rattle.rows.specs.Laws.{does_quiet, does_apart, fresh, with_props}
use Rattle.features.specs.Features.{port}
use Rattle.features.specs.Laws.{other_does, ported_does}
use Rattle.features.proofs.feature_of.Goals as goal

pub returns-then-is_other_feature : goal.returns-then-is_other_feature
returns-then-is_other_feature c =
    let a = c.args in
    let o = a.owner in let n = a.named in let s = state_of a.text.now a.reading a.rows.now in
    rw (c.on.ensures, c.word_and_rest.ensures)
    (does_quiet s word_and_rest ∙ other_does o n s (rw (← c.next.ensures, ← c.is_other_feature.ensures)
    c.if-is_other_feature.true))

pub returns : goal.returns
returns c =
    let a = c.args in
    let o = a.owner in let n = a.named in let s = state_of a.text.now a.reading a.rows.now in
    let e : state_of a.text.now c.with_props-fresh.result a.rows.now ≡ fresh s = rw c.with_props-fresh.ensures in
    rw c.with_props.ensures
    (ap (with_props s.props) (c.port.ensures ∙ ap (λ (t : State). does t (port o n)) e)
    ∙ does_apart s (port o n) ∙ ported_does o n s (rw (← c.next.ensures, ← c.is_other_feature.ensures) c.if-is_other_feature.false))
