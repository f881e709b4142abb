pub mod Beginning
pub mod Early
pub mod Rounds
pub mod Texts
