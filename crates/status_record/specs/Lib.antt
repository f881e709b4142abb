pub mod Record
pub mod Events
pub mod Claims
