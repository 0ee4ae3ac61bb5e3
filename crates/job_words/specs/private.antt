pub mod OptionPlace
pub mod Rest
pub mod Groups
