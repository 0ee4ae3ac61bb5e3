pub mod Montgomery
pub mod Form
