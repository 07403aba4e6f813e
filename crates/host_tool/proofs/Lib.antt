mod Wholly
pub mod Sent
mod Links
mod Played
mod Course
mod Reached
mod Flushed
mod Causes
mod WholeRuns
mod OneWord
pub mod Pieces
