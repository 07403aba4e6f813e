pub mod Audited
pub mod Fields
pub mod InTurn
pub mod Lines
pub mod OfCards
pub mod OneLine
pub mod Signed
pub mod Verdicts
mod Obeyed
