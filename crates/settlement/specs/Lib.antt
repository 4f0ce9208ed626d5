pub mod Kinds
pub mod Hours
pub mod Reduction
pub mod Figures
pub mod Settle
pub mod Bounds
