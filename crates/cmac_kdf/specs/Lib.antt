pub mod Blocks
pub mod Cmac
pub mod Feeding
pub mod Derivation
pub mod Cbc
