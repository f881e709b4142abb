pub mod Marking
pub mod Appending
pub mod Gathering
