pub mod Begins
pub mod Held
