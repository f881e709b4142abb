pub mod Mentioning
pub mod Passing
