pub mod Table
pub mod Rows
pub mod Upstream
pub mod Rooms
pub mod Deciding
pub mod Steps
