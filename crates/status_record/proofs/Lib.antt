pub mod Steps
pub mod Times
pub mod Laws
