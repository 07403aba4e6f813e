pub mod Hash
pub mod Judging
pub mod Laws
pub mod Loaded
pub mod Paged
pub mod Pages
pub mod Session
pub mod Prelude
