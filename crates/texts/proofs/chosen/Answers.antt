-- `texts::chosen`.
use Rattle.words.specs.Kinds.{ANNEX, THREAD}
use Rattle.words.specs.Same.{told_eq}
use Rattle.common.specs.Words.{◌∙◌}
use Rattle.phrases.specs.Phrases.{annex}
use Rattle.rows.specs.States.{state_of}
use Rattle.rows.specs.Laws.{does_quiet}
use Rattle.texts.specs.Laws.{chosen_thread, chosen_annex, chosen_process, chosen_other}
use Rattle.texts.proofs.chosen.Goals as goal

pub returns-then-eq : goal.returns-then-eq
returns-then-eq c =
    let a = c.args in
    c.thread_by.ensures ∙ chosen_thread (state_of a.text.now a.reading a.rows.now) (told_eq THREAD c.next_of-kind.ensures c.if-eq.ensures)

pub returns-then-eq-2 : goal.returns-then-eq-2
returns-then-eq-2 c =
    let a = c.args in
    let s = state_of a.text.now a.reading a.rows.now in
    rw (c.on.ensures, c.annex.ensures)
    (does_quiet s annex ∙ chosen_annex s (told_eq THREAD c.next_of-kind.ensures c.if-eq.ensures)
    (told_eq ANNEX c.next_of-kind.ensures c.if-eq-2.ensures))

pub returns-then-is_process : goal.returns-then-is_process
returns-then-is_process c =
    let a = c.args in
    c.process_implementation.ensures
    ∙ chosen_process (state_of a.text.now a.reading a.rows.now)
    (told_eq THREAD c.next_of-kind.ensures c.if-eq.ensures) (told_eq ANNEX c.next_of-kind.ensures c.if-eq-2.ensures)
    (rw (← c.next_of-kind.ensures, ← c.second_of.ensures, ← c.is_process.ensures) c.if-is_process.true)

pub returns : goal.returns
returns c =
    let a = c.args in
    c.other.ensures a.rows.now
    ∙ chosen_other (state_of a.text.now a.reading a.rows.now)
    (told_eq THREAD c.next_of-kind.ensures c.if-eq.ensures) (told_eq ANNEX c.next_of-kind.ensures c.if-eq-2.ensures)
    (rw (← c.next_of-kind.ensures, ← c.second_of.ensures, ← c.is_process.ensures) c.if-is_process.false)
