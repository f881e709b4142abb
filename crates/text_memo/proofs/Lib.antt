pub mod Spans
pub mod Again
