-- The root of the program's definitions.
pub mod Block
pub mod Laws
