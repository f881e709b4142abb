pub mod Promises
pub mod Stub
