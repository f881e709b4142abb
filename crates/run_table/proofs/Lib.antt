pub mod Promised
pub mod Runs
mod Turns
