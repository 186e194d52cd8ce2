-- The pages of this crate's definitions and laws.
pub mod Phrases
pub mod Laws
