pub mod Entries
pub mod Staged
pub mod Lending
