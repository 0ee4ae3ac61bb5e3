pub mod Composite
pub mod Form
pub mod private
