-- The pages of this crate's definitions; the laws about them stand in proofs/.
pub mod Priorities
