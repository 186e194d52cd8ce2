-- The pages of this crate's definitions and laws.
pub mod Types
pub mod Lookups
pub mod Says
pub mod Unique
pub mod Inverse
