mod FoundLemmas
mod NumeralLemmas
mod NameLemmas
mod CutLemmas
mod OpenLemmas
mod ScalarLemmas
mod ScopeLemmas
mod PortLemmas
mod ReadDetermined
mod ItemLemmas
mod BodyLemmas
mod ModuleDetermined
pub mod PrintLemmas
pub mod GrowLemmas
mod StepLemmas
pub mod TextLemmas
pub mod VerilogDetermined
mod ReadingLemmas
pub mod AssignedLemmas
mod ModuleLemmas
mod PortListLemmas
