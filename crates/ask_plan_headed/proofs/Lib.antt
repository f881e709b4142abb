pub mod Planned
