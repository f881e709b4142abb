pub mod Placed
pub mod Turns
pub mod Files
pub mod Stretched
