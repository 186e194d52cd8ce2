-- The pages of this crate's definitions and laws.
pub mod Letters
pub mod Words
pub mod Same
pub mod Kinds
pub mod Found
