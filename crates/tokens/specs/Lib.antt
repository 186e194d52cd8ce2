-- The pages of this crate's definitions and laws.
pub mod Tokens
pub mod Spots
pub mod Laws
pub mod Sorts
