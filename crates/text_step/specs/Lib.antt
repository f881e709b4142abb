pub mod Steps
pub mod Asks
