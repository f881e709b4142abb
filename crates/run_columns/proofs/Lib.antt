pub mod Answers
pub mod Changes
pub mod Gathered
pub mod Made
pub mod Tables
