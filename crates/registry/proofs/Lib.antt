mod Added
pub mod Frames
pub mod Freed
mod Locked
mod Marking
mod Removed
mod Replaced
mod Staging
mod Tree
mod Unloaded
