pub mod Sums
pub mod SumValue
pub mod Feeds
pub mod SumListing
pub mod private
