-- `declarations::process_implementation`.
use Rattle.common.specs.Words.{ℕ, List, refl, ap, ◌∙◌}
use Rattle.rows.specs.Rows.{Row, process_row}
use Rattle.rows.specs.Said.{put}
use Rattle.rows.specs.States.{State, state_of, does}
use Rattle.declarations.specs.Laws.{process_does}
use Rattle.declarations.proofs.process_implementation.Goals as goal

pub returns : goal.returns
unfolding process_row
returns c =
    let a = c.args in
    let p = a.text.now in let s = state_of p a.reading a.rows.now in
    let row : List ℕ → Row = λ qs. process_row c.start_of-place.result in
    c.put.ensures p row refl ∙ ap (λ (t : State). does t (put row)) c.implementation-whole.ensures
    ∙ process_does s c.start_of-place.result c.start_of-place.ensures
