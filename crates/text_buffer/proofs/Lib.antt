pub mod Parts
pub mod Joining
pub mod Quoting
