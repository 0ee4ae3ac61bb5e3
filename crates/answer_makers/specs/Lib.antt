pub mod Make
pub mod Trial
pub mod Made
pub mod private
