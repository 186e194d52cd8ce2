-- The pages of this crate's definitions and laws.
pub mod Kit
pub mod Priorities
pub mod Laws
pub mod Rows
