pub mod Outcomes
pub mod Adding
pub mod Lines
