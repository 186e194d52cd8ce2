-- The page of this crate's definitions and laws.
pub mod Unique
