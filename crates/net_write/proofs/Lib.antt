pub mod WriteLemmas
pub mod ZipLemmas
pub mod PlainLemmas
pub mod LineTextLemmas
pub mod RowLemmas
pub mod FieldLemmas
pub mod SaidLemmas
pub mod MakeLemmas
pub mod MetLemmas
pub mod PlaceLemmas
pub mod AgainLemmas
pub mod RoundTripLemmas
mod Examples
