-- `declarations::thread_type`.
use Rattle.std.specs.Prelude.{◌≡◌}
use Rattle.common.specs.Words.{ℕ, List, refl, ap, ◌∙◌}
use Rattle.tokens.specs.Tokens.{from}
use Rattle.steps.specs.Steps.{head}
use Rattle.steps.specs.Lifted.{first}
use Rattle.steps.specs.Laws.{token_there}
use Rattle.rows.specs.Rows.{Row, a_type, type_row}
use Rattle.rows.specs.Said.{quiet, put}
use Rattle.rows.specs.States.{State, state_of, does}
use Rattle.rows.specs.Laws.{does_quiet}
use Rattle.declarations.specs.Sections.{sections}
use Rattle.declarations.specs.Declarations.{type_head, type_end}
use Rattle.declarations.specs.Laws.{type_head_then, type_does}
use Rattle.declarations.proofs.thread_type.Goals as goal

pub returns : goal.returns
unfolding type_row
returns c =
    let a = c.args in
    let p = a.text.now in let m = a.rows.now in let s = state_of p a.reading m in let l = c.sections-inner.new.rows in
    let n = c.start_of-named.result in let e = c.start_of-parent.result in let k = head (from p n) in
    let row : List ℕ → Row = λ qs. type_row n e qs in
    let behind : state_of p c.on-head.result m ≡ does s (quiet type_head) =
    rw (c.on-head.ensures, c.maybe_extends.ensures, c.name-behind.ensures, c.symbol-before.ensures, type_head_then s.went) (does_quiet s type_head) in
    let inner = state_of p c.sections-inner.result l in
    let ended : state_of p c.on-whole.result l ≡ does inner (quiet (type_end k)) =
    rw (c.on-whole.ensures, c.type_end.ensures) (does_quiet inner (type_end k)) in
    c.put.ensures p row refl
    ∙ ap (λ (t : State). does t (put row)) (ended ∙ ap (λ (t : State). does t (quiet (type_end k)))
    (c.sections-inner.ensures ∙ ap (λ (t : State). does t (sections a_type n)) behind))
    ∙ type_does s k n e (rw (c.start_of-named.ensures, c.symbol-before.ensures))
    (rw (c.start_of-parent.ensures, c.scopes.ensures, c.symbol.ensures, c.name-behind.ensures, c.symbol-before.ensures))
    (λ h. rw c.start_of-named.ensures (token_there p c.symbol-before.result (rw c.symbol-before.ensures h)) ∙ ap first c.symbol-before.ensures)
