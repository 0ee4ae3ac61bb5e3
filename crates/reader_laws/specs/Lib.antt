pub mod SoundModels
pub mod Judged
