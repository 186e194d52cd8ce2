-- `declarations::implementation`.
use Rattle.rows.specs.Rows.{begun_by}
use Rattle.std.specs.Prelude.{◌≡◌}
use Rattle.common.specs.Words.{ap, ◌∙◌}
use Rattle.words.specs.Kinds.{IMPLEMENTATION, DOT}
use Rattle.tokens.specs.Tokens.{from}
use Rattle.steps.specs.Steps.{◌⟫◌, head, the, name}
use Rattle.steps.specs.Lifted.{lift, first}
use Rattle.steps.specs.Laws.{token_there}
use Rattle.rows.specs.Said.{quiet}
use Rattle.rows.specs.States.{State, state_of, does}
use Rattle.rows.specs.Laws.{does_quiet}
use Rattle.declarations.specs.Sections.{sections}
use Rattle.declarations.specs.Declarations.{implementation_head, implementation_end}
use Rattle.declarations.specs.Laws.{implementation_head_then, implementation_does}
use Rattle.declarations.proofs.implementation.Goals as goal

pub returns : goal.returns
returns c =
    let a = c.args in
    let p = a.text.now in let m = a.rows.now in let s = state_of p a.reading m in
    let k = head (from p c.start_of-first.result) in let n = head (from p c.start_of-second.result) in
    let behind : state_of p c.on.result m ≡ does s (quiet (implementation_head a.word)) =
    rw (
      c.on.ensures,
      c.name-2.ensures,
      c.symbol-made.ensures,
      c.name.ensures,
      c.symbol-typed.ensures,
      c.symbol.ensures,
      implementation_head_then a.word s.went,
    )
    (does_quiet s (implementation_head a.word)) in
    let typed : lift p c.symbol-typed.result ≡ s.went ⟫ the a.word ⟫ the IMPLEMENTATION =
    rw (c.symbol-typed.ensures, c.symbol.ensures) in
    let made : lift p c.symbol-made.result ≡ s.went ⟫ the a.word ⟫ the IMPLEMENTATION ⟫ name ⟫ the DOT =
    rw (c.symbol-made.ensures, c.name.ensures, typed) in
    let inner = state_of p c.sections-inner.result c.sections-inner.new.rows in
    let ended : state_of p c.on-2.result c.sections-inner.new.rows ≡ does inner (quiet (implementation_end k n)) =
    rw (c.on-2.ensures, c.implementation_end.ensures) (does_quiet inner (implementation_end k n)) in
    ended ∙ ap (λ (t : State). does t (quiet (implementation_end k n)))
    (c.sections-inner.ensures ∙ ap (λ (t : State). does t (sections (begun_by a.of) a.place)) behind)
    ∙ implementation_does s a.word (begun_by a.of) a.place k n
    (λ h. rw c.start_of-first.ensures (token_there p c.symbol-typed.result (rw typed h)) ∙ ap first typed)
    (λ h. rw c.start_of-second.ensures (token_there p c.symbol-made.result (rw made h)) ∙ ap first made)
