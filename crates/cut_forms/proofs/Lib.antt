pub mod Faults
pub mod Walks
pub mod Words
