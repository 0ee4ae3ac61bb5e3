pub mod BasisLemmas
pub mod ReaderLemmas
pub mod WordLemmas
pub mod BitLemmas
pub mod EntryLemmas
pub mod EntryDetermined
pub mod SeenLemmas
pub mod FewLemmas
pub mod BodyLemmas
pub mod SignatureLemmas
pub mod NamesLemmas
pub mod ModelLemmas
pub mod FeedLemmas
pub mod SigDetermined
mod Examples
