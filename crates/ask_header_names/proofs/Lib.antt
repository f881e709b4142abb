pub mod Naming
pub mod Listing
