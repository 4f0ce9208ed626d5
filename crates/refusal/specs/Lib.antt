pub mod Numbers
pub mod Tests
pub mod Texts
