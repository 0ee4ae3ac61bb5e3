pub mod Lines
pub mod Numbers
pub mod Names
pub mod Scan
pub mod Joined
