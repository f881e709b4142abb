pub mod Went
pub mod Buffers
pub mod ReadBuffers
pub mod Held
pub mod Binds
pub mod Adds
