pub mod Decimal
pub mod Tape
pub mod Text
pub mod Evening
pub mod Written
pub mod Columns
