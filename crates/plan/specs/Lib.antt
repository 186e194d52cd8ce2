-- The pages of this crate's definitions and laws.
pub mod Limits
pub mod Refusals
pub mod Says
pub mod Queues
pub mod Plan
pub mod Square
pub mod Rules
pub mod Obeyed
pub mod Facts
pub mod Connections
pub mod Sound
pub mod Example
pub mod Verdicts
