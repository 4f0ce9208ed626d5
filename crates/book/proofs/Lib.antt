mod Places
mod Purchases
mod Refused
mod Sound
mod Slips
mod History
mod Decided
mod Charged
mod Stepped
pub mod Finishing
mod MonthSums
pub mod Balance
mod Entered
