-- `threads::thread_of`.
use Rattle.std.specs.Prelude.{◌≡◌}
use Rattle.common.specs.Words.{ℕ, List, refl, ap, ◌∙◌}
use Rattle.words.specs.Kinds.{SEMICOLON}
use Rattle.steps.specs.Steps.{the}
use Rattle.steps.specs.Lifted.{lift}
use Rattle.phrases.specs.Phrases.{classifier}
use Rattle.phrases.specs.Laws.{classifier_then}
use Rattle.rows.specs.Rows.{Row, thread_row}
use Rattle.rows.specs.Said.{quiet, put}
use Rattle.rows.specs.States.{State, state_of, does}
use Rattle.rows.specs.Laws.{does_quiet}
use Rattle.properties.specs.Properties.{of_thread, maybe_block_in}
use Rattle.threads.specs.Laws.{thread_of_does}
use Rattle.threads.proofs.thread_of.Goals as goal

pub returns : goal.returns
unfolding thread_row
returns c =
    let a = c.args in
    let p = a.text.now in let m = a.rows.now in let s = state_of p a.reading m in
    let t = c.start_of.result in let i = c.start_of-2.result in
    let item : List ℕ → Row = λ (qs : List ℕ). thread_row a.process a.named t i qs in
    let behind : state_of p c.on-head.result m ≡ does s (quiet classifier) =
    rw (
      c.on-head.ensures,
      c.dotted.ensures,
      c.name-typed.ensures,
      c.scopes-scoped.ensures,
      classifier_then (lift p a.reading.went),
    ) (does_quiet s classifier) in
    c.put.ensures p item refl
    ∙ ap (λ (t : State). does t (put item))
    (c.symbol_on-whole.ensures m ∙ ap (λ (t : State). does t (quiet (the SEMICOLON))) (c.maybe_block_in.ensures m
    ∙ ap (λ (t : State). does t (maybe_block_in of_thread)) behind))
    ∙ thread_of_does a.process a.named s t i (rw (c.start_of.ensures, c.scopes-scoped.ensures))
    (rw (c.start_of-2.ensures, c.symbol-made.ensures, c.name-typed.ensures, c.scopes-scoped.ensures))
