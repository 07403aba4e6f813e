pub mod ComeFirst
pub mod Passed
pub mod Course
pub mod Complete
mod Turns
