-- The pages of this crate's definitions and laws.
pub mod Answers
pub mod Feed
pub mod Laws
pub mod Outcome
pub mod Step
pub mod Turns
pub mod Session
