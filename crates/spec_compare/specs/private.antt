pub mod First
pub mod InputOf
