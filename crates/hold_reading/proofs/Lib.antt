pub mod Bare
pub mod Lift
pub mod Grow
pub mod Agreement
pub mod Short
pub mod Opened
