pub mod Decimal
pub mod Wrong
pub mod Lining
pub mod Filling
pub mod Computed
