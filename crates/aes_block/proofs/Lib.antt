pub mod KeyLaw
pub mod Xor
pub mod Products
pub mod Bytes
pub mod TableRules
pub mod MixRules
pub mod Blocks
pub mod Inverting
pub mod CipherLemmas
pub mod WordRules
pub mod RoundRules
pub mod ScheduleRules
pub mod InverseRules
mod Vectors
