-- The pages of this crate's definitions and laws.
pub mod Imports
pub mod Laws
pub mod Unique
