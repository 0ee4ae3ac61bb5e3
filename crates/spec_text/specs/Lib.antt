pub mod Token
pub mod Tokens
pub mod Grammar
pub mod Said
pub mod Fault
pub mod private
