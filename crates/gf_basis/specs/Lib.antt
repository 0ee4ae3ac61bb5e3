pub mod Basis
pub mod Dual
pub mod BasisParts
pub mod BasisFault
pub mod private
