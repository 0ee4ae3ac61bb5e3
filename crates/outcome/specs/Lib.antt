pub mod Outcome
pub mod ForEach
pub mod Steps
