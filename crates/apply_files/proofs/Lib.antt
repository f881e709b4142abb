pub mod Limits
pub mod Columns
pub mod Adding
pub mod Closed
pub mod Marks
