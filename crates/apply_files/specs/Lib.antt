pub mod Lines
pub mod Path
