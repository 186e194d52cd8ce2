-- `declarations::listed`.
use Rattle.words.specs.Kinds.{FEATURES, SUBCOMPONENTS}
use Rattle.words.specs.Same.{kind_eq}
use Rattle.common.specs.Words.{◌∙◌}
use Rattle.rows.specs.States.{state_of}
use Rattle.declarations.specs.SectionLaws.{listed_features, listed_subcomponents, listed_connections}
use Rattle.declarations.proofs.listed.Goals as goal

pub returns-then-eq : goal.returns-then-eq
returns-then-eq c =
    let a = c.args in
    c.features.ensures ∙ listed_features a.word a.place (state_of a.text.now a.reading a.rows.now) (kind_eq a.word FEATURES c.if-eq.ensures)

pub returns-then-eq-2 : goal.returns-then-eq-2
returns-then-eq-2 c =
    let a = c.args in
    c.subcomponents.ensures ∙ listed_subcomponents a.word a.place
    (state_of a.text.now a.reading a.rows.now) (kind_eq a.word FEATURES c.if-eq.ensures) (kind_eq a.word SUBCOMPONENTS c.if-eq-2.ensures)

pub returns : goal.returns
returns c =
    let a = c.args in
    c.connections.ensures ∙ listed_connections a.word a.place
    (state_of a.text.now a.reading a.rows.now) (kind_eq a.word FEATURES c.if-eq.ensures) (kind_eq a.word SUBCOMPONENTS c.if-eq-2.ensures)
