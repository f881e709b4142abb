pub mod Ends
pub mod LineKinds
pub mod Answers
