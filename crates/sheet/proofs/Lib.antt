pub mod Decimals
pub mod Tapes
pub mod Columns
