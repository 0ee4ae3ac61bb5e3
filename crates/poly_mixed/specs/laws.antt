pub mod Uniqueness
pub mod TextLaw
