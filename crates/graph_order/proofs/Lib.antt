pub mod Opens
pub mod Walk
pub mod Exploring
pub mod Roots
pub mod Filling
pub mod Showing
