pub mod ParityLaws
pub mod TraceWordLaws
pub mod BasisLaws
pub mod CodeLaws
pub mod BasisFaultLaws
mod Examples
