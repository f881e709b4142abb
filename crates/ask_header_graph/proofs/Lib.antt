pub mod Ready
pub mod Splitting
pub mod Tails
pub mod Filling
pub mod Turning
pub mod Walking
pub mod Starting
