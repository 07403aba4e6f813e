pub mod Bench
pub mod Why
