-- `texts::read`.
use Rattle.std.specs.Prelude.{◌≡◌}
use Rattle.common.specs.Words.{ap, ◌∙◌}
use Rattle.rows.specs.Said.{quiet}
use Rattle.rows.specs.States.{State, state_of, does, begun}
use Rattle.rows.specs.Laws.{does_quiet}
use Rattle.texts.specs.Texts.{pieces, finished}
use Rattle.texts.specs.Laws.{text_does}
use Rattle.texts.proofs.read.Goals as goal

pub returns : goal.returns
returns c =
    let a = c.args in
    let p = a.text.now in let m = a.rows.now in let s = state_of p begun m in
    let inner = state_of p c.pieces-whole.result c.pieces-whole.new.rows in
    let first : state_of p c.begun.result m ≡ s = rw c.begun.ensures in
    rw (c.on.ensures, c.end.ensures)
    (does_quiet inner finished
    ∙ ap (λ (t : State). does t (quiet finished)) (c.pieces-whole.ensures ∙ ap (λ (t : State). does t pieces) first)
    ∙ text_does s)
