pub mod Form
pub mod Uses
pub mod Choice
pub mod Simplified
pub mod Circuit
pub mod private
