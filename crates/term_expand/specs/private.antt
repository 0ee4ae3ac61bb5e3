pub mod Square
pub mod Reached
pub mod AtFeeds
