pub mod Digests
pub mod PagesInUse
pub mod PageMarks
pub mod Writes
pub mod PagesKept
pub mod Loading
pub mod Judged
pub mod Stays
