-- The pages of this crate's definitions and laws.
pub mod Rows
pub mod Said
pub mod States
pub mod Laws
pub mod Wide
pub mod Pays
