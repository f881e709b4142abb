pub mod Plainly
pub mod Writing
pub mod Keys
