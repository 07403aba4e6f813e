pub mod Image
pub mod Things
pub mod Made
pub mod Slots
pub mod Layout
