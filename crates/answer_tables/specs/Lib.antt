pub mod Lift
pub mod Table
pub mod Iso
