pub mod RoundLemmas
pub mod ShapeLemmas
pub mod RoomLemmas
pub mod TwoLemmas
pub mod MadeLemmas
pub mod Examples
