pub mod Span
pub mod Matrix
pub mod BitMatrix
pub mod Proved
pub mod private
pub mod laws
