pub mod But
pub mod Counted
