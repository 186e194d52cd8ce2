-- The pages of this crate's definitions and laws.
pub mod Times
pub mod Sums
pub mod Laws
pub mod Priorities
pub mod PriorityLaws
pub mod Examples
