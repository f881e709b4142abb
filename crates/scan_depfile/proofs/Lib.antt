pub mod Places
pub mod Told
pub mod Walking
pub mod Naming
pub mod Listing
pub mod Laws
