pub mod Growing
pub mod Fresh
pub mod Closed
pub mod Stepped
pub mod Joined
pub mod Outcomes
