-- The pages of this crate's laws.
pub mod Sums
pub mod Permuted
pub mod Order
pub mod Theorems
