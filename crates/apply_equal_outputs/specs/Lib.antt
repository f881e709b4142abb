pub mod Kept
pub mod Sorted
