pub mod Faults
pub mod Paths
pub mod Inputs
pub mod Statements
