pub mod Growing
pub mod Putting
