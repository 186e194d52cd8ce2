-- The pages of this crate's lemmas.
pub mod Found
