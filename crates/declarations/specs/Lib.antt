-- The pages of this crate's definitions and laws.
pub mod Sections
pub mod Declarations
pub mod SectionLaws
pub mod Laws
pub mod Wide
pub mod Pays
