-- The pages of this crate's definitions and laws.
pub mod Types
pub mod CallLines
pub mod Leaves
