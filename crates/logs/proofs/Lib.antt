-- The pages of this crate's laws.
pub mod Fields
pub mod Lines
pub mod Widths
pub mod Frames
pub mod ReadBack
pub mod Turns
pub mod Entries
pub mod Follows
pub mod Verbatim
pub mod Started
pub mod Theorems
pub mod Example
