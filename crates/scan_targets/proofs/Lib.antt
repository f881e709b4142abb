pub mod Runs
pub mod Walk
