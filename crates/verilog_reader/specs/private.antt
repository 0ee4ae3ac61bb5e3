pub mod Meets
pub mod Listed
pub mod Ports
pub mod Bodies
