-- The pages of this crate's definitions and laws.
pub mod Texts
pub mod Laws
pub mod Wide
pub mod Pays
