pub mod Coordinates
pub mod NormalPlan
pub mod NormalNet
pub mod NormalForm
pub mod private
