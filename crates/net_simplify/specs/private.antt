-- Words that only clauses of private functions cite.
pub mod Lists
pub mod Marks
pub mod Best
pub mod Catalog
pub mod Underway
pub mod Words
