-- `links::connection_of`.
use Rattle.std.specs.Prelude.{◌≡◌}
use Rattle.common.specs.Words.{ap, ◌∙◌}
use Rattle.phrases.specs.Phrases.{word_and_rest}
use Rattle.rows.specs.States.{State, state_of, does}
use Rattle.rows.specs.Laws.{does_quiet, does_apart, fresh, with_props}
use Rattle.links.specs.Links.{link}
use Rattle.links.specs.Laws.{other_does, between_does}
use Rattle.links.proofs.connection_of.Goals as goal

pub returns-then-is_other_kind : goal.returns-then-is_other_kind
returns-then-is_other_kind c =
    let a = c.args in
    let o = a.process in let n = a.named in let s = state_of a.text.now a.reading a.rows.now in
    rw (c.on.ensures, c.word_and_rest.ensures)
    (does_quiet s word_and_rest ∙ other_does o a.start n s
    (rw (← c.next.ensures, ← c.second.ensures, ← c.is_other_kind.ensures) c.if-is_other_kind.true))

pub returns : goal.returns
returns c =
    let a = c.args in
    let o = a.process in let n = a.named in let s = state_of a.text.now a.reading a.rows.now in
    let e : state_of a.text.now c.with_props-fresh.result a.rows.now ≡ fresh s = rw c.with_props-fresh.ensures in
    rw c.with_props.ensures
    (ap (with_props s.props) (c.link.ensures ∙ ap (λ (t : State). does t (link o a.start n)) e)
    ∙ does_apart s (link o a.start n) ∙ between_does o a.start n s
    (rw (← c.next.ensures, ← c.second.ensures, ← c.is_other_kind.ensures) c.if-is_other_kind.false))
