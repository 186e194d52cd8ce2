-- The pages of this crate's definitions and laws.
pub mod Found
pub mod Trees
pub mod Growing
pub mod Index
pub mod Laws
pub mod Keyed
pub mod Held
pub mod Props
pub mod Options
