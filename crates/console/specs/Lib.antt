-- The pages of this crate's definitions and laws.
pub mod Types
pub mod Step
pub mod CallLines
pub mod Framing
pub mod LongLines
pub mod SoundDesk
pub mod Fits
pub mod Unique
