pub mod Device
pub mod Memory
pub mod MemoryLaws
pub mod Replay
pub mod Wrapped
