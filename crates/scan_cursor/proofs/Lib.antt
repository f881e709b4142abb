pub mod Spanning
pub mod Finding
