pub mod Missing
pub mod Outcomes
