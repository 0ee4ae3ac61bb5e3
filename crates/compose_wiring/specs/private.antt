pub mod Names
pub mod Words
pub mod Plain
pub mod Keys
pub mod Linked
