pub mod Log
pub mod Index
pub mod Held
