-- The pages of this crate's definitions and laws.
pub mod Origin
