pub mod Root
pub mod Isomorphism
pub mod Images
pub mod Fits
pub mod IsoParts
pub mod FieldParts
pub mod private
