pub mod Instanced
pub mod Refusal
pub mod Answer
pub mod private
