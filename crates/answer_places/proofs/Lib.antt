pub mod Outcomes
pub mod Placing
pub mod Siting
