pub mod Times
pub mod Judging
pub mod Along
pub mod Marking
