-- `links::connection`.
use Rattle.std.specs.Prelude.{◌≡◌}
use Rattle.common.specs.Words.{ap, ◌∙◌}
use Rattle.phrases.specs.Phrases.{maybe_label}
use Rattle.rows.specs.Said.{quiet}
use Rattle.rows.specs.States.{State, state_of, does}
use Rattle.rows.specs.Laws.{does_quiet}
use Rattle.links.specs.Links.{connection_of}
use Rattle.links.specs.Laws.{connection_does}
use Rattle.links.proofs.connection.Goals as goal

pub returns : goal.returns
returns c =
    let a = c.args in
    let s = state_of a.text.now a.reading a.rows.now in
    let labelled : state_of a.text.now c.on.result a.rows.now ≡ does s (quiet maybe_label) =
    rw (c.on.ensures, c.maybe_label.ensures) (does_quiet s maybe_label) in
    c.connection_of.ensures ∙ ap (λ (t : State). does t (connection_of a.process c.start_of-start.result c.label_at-named.result)) labelled
    ∙ rw (c.start_of-start.ensures, c.label_at-named.ensures) (connection_does a.process s)
