-- The pages of this crate's definitions and laws.
pub mod Types
pub mod Calls
pub mod View
pub mod Outcomes
pub mod Bounds
pub mod Stepping
