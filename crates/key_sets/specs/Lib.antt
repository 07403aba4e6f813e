pub mod Puts
pub mod Draws
