-- The pages of this crate's laws.
pub mod Steps
pub mod Ground
pub mod Invariant
pub mod Holds
pub mod Order
pub mod Answers
pub mod Reading
pub mod Short
pub mod Resized
pub mod Least
pub mod Same
pub mod Made
pub mod Lists
pub mod Theorems
pub mod Example
