-- Words that only clauses of private functions cite.
pub mod Counts
pub mod NameHash
pub mod Placed
