pub mod Listed
pub mod Indexed
pub mod Reading
pub mod ReadingState
pub mod Choice
