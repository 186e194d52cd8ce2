-- `texts::piece`.
use Rattle.words.specs.Kinds.{PACKAGE}
use Rattle.words.specs.Same.{told_eq}
use Rattle.common.specs.Words.{◌∙◌}
use Rattle.rows.specs.States.{state_of}
use Rattle.texts.specs.Laws.{piece_package, piece_declaration}
use Rattle.texts.proofs.piece.Goals as goal

pub returns-then-eq : goal.returns-then-eq
returns-then-eq c =
    let a = c.args in
    c.packaged.ensures ∙ piece_package (state_of a.text.now a.reading a.rows.now) (told_eq PACKAGE c.next_of.ensures c.if-eq.ensures)

pub returns : goal.returns
returns c =
    let a = c.args in
    c.declaration.ensures ∙ piece_declaration (state_of a.text.now a.reading a.rows.now)
    (told_eq PACKAGE c.next_of.ensures c.if-eq.ensures)
