-- The pages of this crate's definitions and laws.
pub mod Verdict
pub mod Laws
