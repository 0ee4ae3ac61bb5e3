pub mod BoundVariables
pub mod GatePoint
pub mod Recorded
pub mod Monomials
pub mod private
