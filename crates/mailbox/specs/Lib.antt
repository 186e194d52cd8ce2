-- The pages of this crate's definitions and laws.
pub mod Types
pub mod Calls
pub mod Outcomes
pub mod Unique
pub mod Refused
pub mod Says
pub mod Delivered
