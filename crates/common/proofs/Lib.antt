-- The pages of this crate's laws that rest on definitions of its own.
pub mod Rows
