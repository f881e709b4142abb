pub mod Looks
pub mod Passing
pub mod Listing
pub mod Marked
