-- `threads::subcomponent_of`.
use Rattle.std.specs.Prelude.{◌≡◌}
use Rattle.common.specs.Words.{ap, ◌∙◌}
use Rattle.phrases.specs.Phrases.{word_and_rest}
use Rattle.rows.specs.States.{State, state_of, does}
use Rattle.rows.specs.Laws.{does_quiet, does_apart, fresh, with_props}
use Rattle.threads.specs.Threads.{thread}
use Rattle.threads.specs.Laws.{other_does, threaded_does}
use Rattle.threads.proofs.subcomponent_of.Goals as goal

pub returns-then-is_other_component : goal.returns-then-is_other_component
returns-then-is_other_component c =
    let a = c.args in
    let o = a.process in let n = a.named in let s = state_of a.text.now a.reading a.rows.now in
    rw (c.on.ensures, c.word_and_rest.ensures)
    (does_quiet s word_and_rest ∙ other_does o n s (rw (← c.next.ensures, ← c.is_other_component.ensures)
    c.if-is_other_component.true))

pub returns : goal.returns
returns c =
    let a = c.args in
    let o = a.process in let n = a.named in let s = state_of a.text.now a.reading a.rows.now in
    let e : state_of a.text.now c.with_props-fresh.result a.rows.now ≡ fresh s = rw c.with_props-fresh.ensures in
    rw c.with_props.ensures
    (ap (with_props s.props) (c.thread.ensures ∙ ap (λ (t : State). does t (thread o n)) e)
    ∙ does_apart s (thread o n) ∙ threaded_does o n s (rw (← c.next.ensures, ← c.is_other_component.ensures)
    c.if-is_other_component.false))
