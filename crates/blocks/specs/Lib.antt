-- The root of the crate's definitions.
pub mod Stream
pub mod Laws
