pub mod Places
pub mod Copies
pub mod Finds
pub mod Adds
