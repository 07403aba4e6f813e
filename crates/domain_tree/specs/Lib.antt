pub mod Above
pub mod Holders
pub mod LineLaws
pub mod Slots
