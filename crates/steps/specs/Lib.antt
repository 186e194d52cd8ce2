-- The pages of this crate's definitions and laws.
pub mod Faults
pub mod Worse
pub mod Steps
pub mod Lifted
pub mod Spotted
pub mod Laws
pub mod Weights
