pub mod Asked
pub mod Lines
pub mod Numbers
pub mod Pieces
pub mod Usual
pub mod Words
