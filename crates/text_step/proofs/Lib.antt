pub mod Picking
pub mod Wanting
pub mod One
pub mod Answering
pub mod Promise
