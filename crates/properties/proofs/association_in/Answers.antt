-- `properties::association_in`.
use Rattle.common.specs.Words.{sym, ◌∙◌}
use Rattle.steps.specs.Lifted.{lift}
use Rattle.rows.specs.States.{state_of}
use Rattle.properties.specs.Laws.{read_low, read_there, association_read, association_skipped}
use Rattle.properties.proofs.association_in.Goals as goal

pub owned-requires : goal.owned-requires
owned-requires c =
    let a = c.args in let s = lift a.text.now a.reading.went in (
      read_low a.of c.property_at-property.result (sym c.is_read.ensures ∙ c.if-is_read.true),
      read_there a.of s (rw (← c.property_at-property.ensures) (sym c.is_read.ensures ∙ c.if-is_read.true)),
    )

pub returns-then-is_read : goal.returns-then-is_read
returns-then-is_read c =
    let a = c.args in
    λ m. c.owned.ensures m ∙ rw c.property_at-property.ensures (association_read a.of (state_of a.text.now a.reading m)
    (rw (← c.property_at-property.ensures) (sym c.is_read.ensures ∙ c.if-is_read.true)))

pub skipped_in-requires : goal.skipped_in-requires
skipped_in-requires c = c.property_at-property.ensures

pub returns : goal.returns
returns c =
    let a = c.args in
    λ m. c.skipped_in.ensures m ∙ association_skipped a.of (state_of a.text.now a.reading m)
    (rw (← c.property_at-property.ensures) (sym c.is_read.ensures ∙ c.if-is_read.false))
