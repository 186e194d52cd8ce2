-- The pages of this crate's definitions; the laws about them stand in proofs/.
pub mod Types
pub mod Said
pub mod Log
pub mod Session
