pub mod DigitsLaws
pub mod TowerLaws
