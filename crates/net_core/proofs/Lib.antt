pub mod SharedLemmas
pub mod NetPath
pub mod RightGates
pub mod DriverLemmas
pub mod CountLemmas
pub mod DrivingLemmas
pub mod EvalLemmas
pub mod ExistLemmas
pub mod LawLemmas
pub mod InsideLemmas
pub mod LevelLemmas
pub mod LoopLemmas
pub mod NameLemmas
pub mod OrderLemmas
pub mod PlaceLemmas
pub mod SettleLemmas
pub mod TurnLemmas
mod Examples
