-- The pages of this crate's definitions and laws.
pub mod Lines
pub mod Writer
pub mod Laws
pub mod Sets
