pub mod Workdays
pub mod Figures
