pub mod Batches
pub mod Telling
