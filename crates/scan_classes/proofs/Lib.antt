pub mod Entries
pub mod Sorted
