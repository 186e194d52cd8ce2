-- The pages of this crate's definitions and laws.
pub mod Lent
pub mod Bounds
pub mod Until
pub mod Passed
