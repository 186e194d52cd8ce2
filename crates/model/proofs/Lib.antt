-- The pages of this crate's laws.
pub mod Count
pub mod Ties
pub mod Order
pub mod Number
pub mod WayBack
pub mod Outdating
pub mod Window
pub mod Fit
pub mod Gcd
pub mod Multiple
pub mod Later
pub mod Slots
pub mod Equation3
pub mod Worked
