pub mod Agreeing
pub mod Matching
