pub mod Scanners
pub mod Targets
pub mod Cards
pub mod Names
pub mod Bundles
