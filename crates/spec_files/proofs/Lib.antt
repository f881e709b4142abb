pub mod Parents
pub mod Walk
pub mod Nested
pub mod Moved
pub mod Unopened
pub mod Asks
pub mod Counting
pub mod Circles
