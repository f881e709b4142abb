pub mod Marks
pub mod Names
pub mod Writer
pub mod Writing
pub mod Spelled
pub mod Cases
