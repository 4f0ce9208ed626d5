pub mod Meaning
pub mod Methods
pub mod Reference
pub mod Striking
pub mod Profile
pub mod Sources
