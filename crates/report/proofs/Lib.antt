pub mod Folds
pub mod Metered
pub mod Parts
pub mod Turns
pub mod Writing
