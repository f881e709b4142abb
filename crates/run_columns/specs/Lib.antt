pub mod Columns
pub mod Changes
pub mod Chosen
pub mod Fresh
