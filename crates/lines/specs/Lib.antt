-- The pages of this crate's definitions and laws.
pub mod Lines
pub mod Blocks
pub mod Whole
pub mod Ends
pub mod Strides
pub mod Held
pub mod Carried
