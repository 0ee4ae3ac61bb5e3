pub mod CarriedLaws
pub mod RootLaws
pub mod SubfieldLaws
pub mod TowerImageLaws
pub mod SearchLaws
pub mod SliceLaws
pub mod IsoLaws
pub mod WordLaws
pub mod ImageLemmas
pub mod StepLaws
pub mod UniqueLaws
pub mod FieldsLaws
pub mod FoundLaws
mod Examples
