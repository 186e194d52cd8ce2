-- The types that the pages of this crate speak of, its own and those of the crates below, under their own names.
pub use Rattle.calendar.specs.declared.Job.{Job}
pub use Rattle.calendar.specs.declared.Number.{Number}
pub use Rattle.plan.specs.declared.Plan.{Plan}
pub use Rattle.plan.specs.declared.refusal.Refusal.{Refusal}
pub use Rattle.plan.specs.declared.refusal.Rule.{Rule}
pub use Rattle.numbering.specs.declared.origin.Origin.{Origin}
pub use Rattle.lookups.specs.declared.Window.{Window}
