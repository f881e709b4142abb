pub mod Graph
pub mod Split
pub mod Begins
pub mod Turns
