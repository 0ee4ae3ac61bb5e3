pub mod Columns
pub mod Reading
pub mod Lifting
pub mod Digits
pub mod Products
pub mod Circuits
