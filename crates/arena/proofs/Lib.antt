pub mod Laws
pub mod Inserting
pub mod Shifting
pub mod Rising
