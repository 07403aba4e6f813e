pub mod Ahead
pub mod Buffered
pub mod Counted
pub mod Lines
pub mod Memory
pub mod Streams
