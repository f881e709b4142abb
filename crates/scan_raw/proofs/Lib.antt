pub mod Answers
pub mod Look
pub mod Fronts
pub mod Cuts
pub mod PathLists
pub mod Bytes
pub mod Faults
pub mod Pieces
