-- The pages of this crate's definitions and laws.
pub mod Features
pub mod Laws
pub mod Wide
pub mod Pays
