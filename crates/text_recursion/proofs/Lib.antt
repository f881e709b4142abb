pub mod Circles
pub mod Levels
pub mod Referring
pub mod Depths
pub mod Enough
