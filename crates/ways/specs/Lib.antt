-- The pages of this crate's definitions and laws.
pub mod Ways
pub mod Laws
pub mod Options
pub mod Props
pub mod Named
pub mod Firsts
