pub mod Cuts
pub mod Long
pub mod NextLine
pub mod Ranges
pub mod Whole
