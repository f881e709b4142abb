pub mod Numbers
pub mod Adding
pub mod Listing
pub mod Bundling
