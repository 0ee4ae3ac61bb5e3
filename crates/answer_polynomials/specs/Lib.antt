pub mod Values
pub mod Bits
pub mod Abstract
pub mod Check
pub mod Same
pub mod Eval
