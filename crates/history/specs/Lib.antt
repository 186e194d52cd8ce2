-- The pages of this crate's definitions; the laws about them stand in proofs/.
pub mod Types
pub mod History
pub mod Smaller
