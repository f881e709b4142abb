pub mod Elements
pub mod Answers
