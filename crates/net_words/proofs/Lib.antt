pub mod SharedLemmas
pub mod ZipLemmas
pub mod BindLemmas
pub mod VariableLemmas
pub mod MemberLemmas
pub mod FeedLemmas
pub mod BoundLemmas
pub mod FlatLemmas
pub mod RankLemmas
pub mod BindDetermined
mod Examples
