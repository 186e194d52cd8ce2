-- `properties::skipped_in`.
use Rattle.common.specs.Words.{sym}
use Rattle.properties.specs.contracts.Of.{the_type}
use Rattle.properties.specs.Properties.{of_process}
use denote.Enum.Bare.{differs_true, differs_false}
use Rattle.rows.specs.States.{state_of}
use Rattle.properties.specs.Laws.{skipped_plain, skipped_other, skipped_noted}
use Rattle.properties.proofs.skipped_in.Goals as goal

pub returns-then-ne : goal.returns-then-ne
returns-then-ne c =
    let a = c.args in
    λ m. rw (c.on-skipped.ensures, c.association.ensures)
    (skipped_plain a.of (state_of a.text.now a.reading m) (differs_true the_type _ of_process (sym c.if-ne.ensures)))

pub returns-then-property-lt-TIMING : goal.returns-then-property-lt-TIMING
returns-then-property-lt-TIMING c =
    let a = c.args in
    λ m. rw (c.noted.ensures, c.on-skipped.ensures, c.association.ensures, c.start_of.ensures)
    (skipped_noted a.of (state_of a.text.now a.reading m) (differs_false the_type tt _ of_process (sym c.if-ne.ensures))
    (rw (← c.requires) c.if-property-lt-TIMING.true))

pub returns : goal.returns
returns c =
    let a = c.args in
    λ m. rw (c.on-skipped.ensures, c.association.ensures) (skipped_other a.of
    (state_of a.text.now a.reading m) (rw (← c.requires) c.if-property-lt-TIMING.false))
