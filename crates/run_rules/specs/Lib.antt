pub mod Runner
pub mod Places
pub mod Claims
