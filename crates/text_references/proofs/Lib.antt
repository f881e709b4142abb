pub mod Beginnings
pub mod Turns
