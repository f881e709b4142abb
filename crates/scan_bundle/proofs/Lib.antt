pub mod Extents
pub mod Running
pub mod Lying
pub mod Checking
pub mod Sorting
pub mod Places
pub mod Wrapping
pub mod Laws
