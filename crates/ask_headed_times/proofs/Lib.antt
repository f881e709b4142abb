pub mod CardTimes
pub mod Judging
