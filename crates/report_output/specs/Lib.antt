pub mod Opens
pub mod Output
