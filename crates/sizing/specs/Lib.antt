-- The pages of this crate's definitions and laws.
pub mod Cycle
pub mod Bounds
pub mod Needs
pub mod Above
pub mod Jumps
