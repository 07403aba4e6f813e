pub mod ClassBytes
pub mod Octets
pub mod OneSpelling
