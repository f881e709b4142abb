pub mod Constants
pub mod Cut
pub mod Near
pub mod Chain
pub mod Values
pub mod Ranges
pub mod Bound
