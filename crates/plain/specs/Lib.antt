-- The pages of this crate's definitions and laws.
pub mod Plain
pub mod Close
pub mod Case
pub mod Begun
pub mod Comments
pub mod Examples
pub mod Inside
