pub mod PageLists
mod Steps
