-- The pages of this crate's definitions and laws.
pub mod Hex
pub mod HexLaws
pub mod Numbers
pub mod NumberLaws
