-- `threads::subcomponent`.
use Rattle.std.specs.Prelude.{◌≡◌}
use Rattle.common.specs.Words.{ap, ◌∙◌}
use Rattle.phrases.specs.Phrases.{label}
use Rattle.rows.specs.Said.{quiet}
use Rattle.rows.specs.States.{State, state_of, does}
use Rattle.rows.specs.Laws.{does_quiet}
use Rattle.threads.specs.Threads.{subcomponent_of}
use Rattle.threads.specs.Laws.{subcomponent_does}
use Rattle.threads.proofs.subcomponent.Goals as goal

pub returns : goal.returns
returns c =
    let a = c.args in
    let o = a.process in let s = state_of a.text.now a.reading a.rows.now in
    let labelled : state_of a.text.now c.on.result a.rows.now ≡ does s (quiet label) =
    rw (c.on.ensures, c.label.ensures) (does_quiet s label) in
    c.subcomponent_of.ensures ∙ ap (λ (t : State). does t (subcomponent_of o c.start_of-named.result)) labelled
    ∙ rw c.start_of-named.ensures (subcomponent_does o s)
