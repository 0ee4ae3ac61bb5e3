pub mod DigitPlan
pub mod DigitForm
pub mod DigitNet
pub mod ComputesFed
pub mod IsDigitNet
pub mod private
