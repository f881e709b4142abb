pub mod Forcing
pub mod Clearing
