pub mod Places
pub mod Makers
pub mod Looking
pub mod Blank
pub mod Held
pub mod Growing
