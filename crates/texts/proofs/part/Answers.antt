-- `texts::part`.
use Rattle.common.specs.Words.{◌∙◌}
use Rattle.rows.specs.States.{state_of}
use Rattle.rows.specs.Laws.{does_quiet}
use Rattle.texts.specs.Texts.{clause}
use Rattle.texts.specs.Laws.{part_clause, part_declaration}
use Rattle.texts.proofs.part.Goals as goal

pub returns-then-begins_clause : goal.returns-then-begins_clause
returns-then-begins_clause c =
    let a = c.args in
    let s = state_of a.text.now a.reading a.rows.now in
    rw (c.on.ensures, c.clause.ensures)
    (does_quiet s clause ∙ part_clause s (rw (← c.next.ensures, ← c.begins_clause.ensures) c.if-begins_clause.true))

pub returns : goal.returns
returns c =
    let a = c.args in
    let s = state_of a.text.now a.reading a.rows.now in
    c.declaration.ensures ∙ part_declaration s (rw (← c.next.ensures, ← c.begins_clause.ensures) c.if-begins_clause.false)
