pub mod Specification
pub mod SpecValue
pub mod SpecListing
pub mod Expanded
pub mod private
