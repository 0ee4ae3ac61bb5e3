pub mod DigitSteps
pub mod OverFault
