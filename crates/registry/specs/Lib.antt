pub mod Adding
pub mod Pages
pub mod Removing
pub mod Setting
pub mod TableLists
pub mod Tree
pub mod Prelude
