pub mod Small
pub mod Table
pub mod OneWord
pub mod TablePolynomial
pub mod TableText
pub mod CircuitTable
pub mod private
