pub mod Rates
pub mod Within
