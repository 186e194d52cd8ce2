-- The pages of this crate's definitions and laws.
pub mod Types
pub mod Desk
pub mod Turns
pub mod Starts
