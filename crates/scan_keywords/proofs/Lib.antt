pub mod Answers
pub mod Ors
