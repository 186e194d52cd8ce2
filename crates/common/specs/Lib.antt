-- The pages of this crate's definitions and laws.
pub mod Words
pub mod Terms
pub mod Tests
pub mod Totals
pub mod Rank
pub mod Table
pub mod Stores
