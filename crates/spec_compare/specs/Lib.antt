pub mod ValueAt
pub mod Verdict
pub mod private
