pub mod Lookups
pub mod Indexing
pub mod Scopes
pub mod Entries
pub mod Marks
pub mod Seeking
