-- The pages of this crate's definitions and laws.
pub mod Values
pub mod Laws
