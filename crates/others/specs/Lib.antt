-- The pages of this crate's definitions and laws.
pub mod Others
pub mod Laws
pub mod Pays
