-- `declarations::thread_implementation`.
use Rattle.common.specs.Words.{ℕ, List, refl, ap, ◌∙◌}
use Rattle.rows.specs.Rows.{Row, implementation_row}
use Rattle.rows.specs.Said.{put}
use Rattle.rows.specs.States.{State, state_of, does}
use Rattle.declarations.specs.Laws.{thread_implementation_does}
use Rattle.declarations.proofs.thread_implementation.Goals as goal

pub returns : goal.returns
unfolding implementation_row
returns c =
    let a = c.args in
    let p = a.text.now in let s = state_of p a.reading a.rows.now in
    let row : List ℕ → Row = λ qs. implementation_row c.start_of-first.result c.start_of-second.result qs in
    c.put.ensures p row refl ∙ ap (λ (t : State). does t (put row)) c.implementation-whole.ensures
    ∙ thread_implementation_does s c.start_of-first.result c.start_of-second.result
    (rw (c.start_of-first.ensures, c.symbol-typed.ensures, c.symbol.ensures))
    (rw (
      c.start_of-second.ensures,
      c.symbol-2.ensures,
      c.name.ensures,
      c.symbol-typed.ensures,
      c.symbol.ensures,
    ))
