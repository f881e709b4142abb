pub mod Walk
pub mod Sort
