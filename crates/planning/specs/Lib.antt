-- The pages of this crate's definitions and laws.
pub mod Planning
pub mod TableLaws
pub mod AcceptedPlan
pub mod Says
pub mod Unique
