-- The pages of this crate's definitions and laws.
pub mod Frames
pub mod Answers
pub mod Writing
