pub mod Declares
pub mod Items
pub mod Modules
pub mod Assigned
pub mod private
