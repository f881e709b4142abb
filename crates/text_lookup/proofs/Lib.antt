pub mod Newest
pub mod Standing
