pub mod Tells
pub mod Wants
