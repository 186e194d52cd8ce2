-- `threads::thread`.
use Rattle.common.specs.Words.{ap, ◌∙◌}
use Rattle.rows.specs.States.{State, state_of, does}
use Rattle.threads.specs.Threads.{thread_of}
use Rattle.threads.specs.Laws.{thread_does}
use Rattle.threads.proofs.thread.Goals as goal

pub returns : goal.returns
returns c =
    let a = c.args in
    c.thread_of.ensures ∙ ap (λ (t : State). does t (thread_of a.process a.named)) (c.symbol_on.ensures a.rows.now)
    ∙ thread_does a.process a.named (state_of a.text.now a.reading a.rows.now)
