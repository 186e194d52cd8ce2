-- The pages of this crate's definitions and laws.
pub mod Findings
pub mod Laws
