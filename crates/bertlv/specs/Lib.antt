pub mod Tag
pub mod Length
pub mod Spelling
pub mod Refusal
