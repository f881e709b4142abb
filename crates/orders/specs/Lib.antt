pub mod Order
pub mod Greedy
pub mod GreedyLaws
pub mod Circle
pub mod Reach
pub mod Along
pub mod Same
