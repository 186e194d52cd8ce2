-- The types that the pages of this crate speak of, its own and those of the crates below, under their own names.
pub use Rattle.calendar.specs.declared.Number.{Number}
pub use Rattle.calendar.specs.declared.Slot.{Slot}
pub use Rattle.calendar.specs.declared.Tick.{Tick}
pub use Rattle.plan.specs.declared.Plan.{Plan}
pub use Rattle.plan.specs.Refusals.{Verdict, clear}
pub use Rattle.plan.specs.declared.refusal.Refusal.{Refusal}
pub use Rattle.running.specs.declared.Received.{Received}
pub use Rattle.running.specs.declared.Stored.{Stored}
pub use Rattle.mailbox.specs.declared.Receiving.{Receiving}
pub use Rattle.mailbox.specs.declared.Sending.{Sending}
pub use Rattle.mailbox.specs.declared.Starting.{Starting}
pub use Rattle.mailbox.specs.declared.State.{State}
