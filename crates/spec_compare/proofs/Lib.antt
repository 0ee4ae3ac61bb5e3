pub mod FirstLemmas
pub mod InputLemmas
pub mod StepLemmas
pub mod TurnLemmas
pub mod SomeOnesLemmas
pub mod ComparedLemmas
pub mod OutputLemmas
pub mod BitPolynomialLemmas
mod Examples
