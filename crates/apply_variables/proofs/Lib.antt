pub mod Values
pub mod Outcomes
