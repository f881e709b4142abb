pub mod Sorting
pub mod Members
pub mod Repeats
pub mod Behind
