pub mod DecidedSums
pub mod DualsExist
pub mod InverseExists
pub mod IsoExists
pub mod ListedExist
pub mod SpecDecided
pub mod StepsExist
