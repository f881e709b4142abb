pub mod Copying
pub mod Ending
pub mod Finding
pub mod Telling
pub mod Placing
pub mod Heading
pub mod Adding
pub mod Chain
