pub mod Finding
pub mod Paths
pub mod Entering
