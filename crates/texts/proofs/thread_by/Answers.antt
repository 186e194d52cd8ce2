-- `texts::thread_by`.
use Rattle.words.specs.Kinds.{GROUP, IMPLEMENTATION}
use Rattle.words.specs.Same.{told_eq}
use Rattle.common.specs.Words.{◌∙◌}
use Rattle.rows.specs.States.{state_of}
use Rattle.texts.specs.Laws.{thread_by_implementation, thread_by_group, thread_by_type}
use Rattle.texts.proofs.thread_by.Goals as goal

pub returns-then-eq : goal.returns-then-eq
returns-then-eq c =
    let a = c.args in
    c.thread_implementation.ensures ∙ thread_by_implementation (state_of a.text.now a.reading a.rows.now)
    (told_eq IMPLEMENTATION c.second_of-second.ensures c.if-eq.ensures)

pub returns-then-eq-2 : goal.returns-then-eq-2
returns-then-eq-2 c =
    let a = c.args in
    c.other.ensures a.rows.now
    ∙ thread_by_group (state_of a.text.now a.reading a.rows.now)
    (told_eq IMPLEMENTATION c.second_of-second.ensures c.if-eq.ensures) (told_eq GROUP c.second_of-second.ensures c.if-eq-2.ensures)

pub returns : goal.returns
returns c =
    let a = c.args in
    c.thread_type.ensures
    ∙ thread_by_type (state_of a.text.now a.reading a.rows.now)
    (told_eq IMPLEMENTATION c.second_of-second.ensures c.if-eq.ensures)
    (told_eq GROUP c.second_of-second.ensures c.if-eq-2.ensures)
