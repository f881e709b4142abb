pub mod Laid
pub mod Expanding
pub mod Callers
