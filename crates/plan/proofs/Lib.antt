-- The pages of this crate's lemmas.
pub mod Made
pub mod Found
