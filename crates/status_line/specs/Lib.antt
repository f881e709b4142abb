pub mod Pieces
pub mod Line
pub mod LineAsk
