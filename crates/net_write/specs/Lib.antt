pub mod Plain
pub mod Written
pub mod SameByName
pub mod ReadBack
pub mod private
