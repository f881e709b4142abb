pub mod Expansions
pub mod Variables
pub mod Raw
pub mod Pieces
pub mod Begin
pub mod Filling
