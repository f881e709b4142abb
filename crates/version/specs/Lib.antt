pub mod Version
pub mod Part
pub mod Cases
