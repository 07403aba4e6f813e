mod Runs
mod Causes
mod Copies
mod Descriptors
pub mod PageKinds
mod Lists
mod PagesStand
mod Commits
mod Settles
mod Stages
