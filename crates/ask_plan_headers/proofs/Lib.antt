pub mod Headed
pub mod Unlisted
