-- The pages of this crate's definitions and laws.
pub mod Reader
pub mod StoredRows
pub mod Laws
pub mod First
pub mod Same
pub mod Unique
pub mod Listing
