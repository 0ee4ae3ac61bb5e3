pub mod ReadBackLemmas
pub mod TableLemmas
pub mod IsoLemmas
pub mod SomeTableLemmas
