pub mod Known
pub mod Putting
pub mod Walking
pub mod Answering
pub mod Asked
pub mod Promised
