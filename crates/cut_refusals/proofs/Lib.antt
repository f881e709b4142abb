pub mod Dollars
pub mod Cut
