-- The pages of this crate's definitions and laws.
pub mod Keys
pub mod Laws
pub mod Examples
