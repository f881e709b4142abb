pub mod Here
pub mod Asks
