-- `declarations::section`.
use Rattle.rows.specs.Rows.{begun_by}
use Rattle.words.specs.Kinds.{PROPERTIES}
use Rattle.words.specs.Same.{told_eq}
use Rattle.common.specs.Words.{◌∙◌}
use Rattle.phrases.specs.Phrases.{skipped}
use Rattle.rows.specs.States.{state_of}
use Rattle.rows.specs.Laws.{does_quiet}
use Rattle.declarations.specs.SectionLaws.{section_list, section_properties, section_skipped}
use Rattle.declarations.proofs.section.Goals as goal

pub returns-then-begins_list : goal.returns-then-begins_list
returns-then-begins_list c =
    let a = c.args in
    let s = state_of a.text.now a.reading a.rows.now in
    c.list_in.ensures ∙ rw c.next_of-kind.ensures (section_list (begun_by a.of) a.place s
    (rw (← c.next_of-kind.ensures, ← c.begins_list.ensures) c.if-begins_list.true))

pub returns-then-eq : goal.returns-then-eq
returns-then-eq c =
    let a = c.args in
    let s = state_of a.text.now a.reading a.rows.now in
    c.properties_of.ensures a.rows.now
    ∙ section_properties (begun_by a.of) a.place s (rw (← c.next_of-kind.ensures, ← c.begins_list.ensures) c.if-begins_list.false)
    (told_eq PROPERTIES c.next_of-kind.ensures c.if-eq.ensures)

pub returns : goal.returns
returns c =
    let a = c.args in
    let s = state_of a.text.now a.reading a.rows.now in
    rw (c.on.ensures, c.skipped.ensures)
    (does_quiet s skipped
    ∙ section_skipped (begun_by a.of) a.place s (rw (← c.next_of-kind.ensures, ← c.begins_list.ensures) c.if-begins_list.false)
    (told_eq PROPERTIES c.next_of-kind.ensures c.if-eq.ensures))
