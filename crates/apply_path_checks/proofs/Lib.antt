pub mod Wrong
pub mod Walking
pub mod Makers
