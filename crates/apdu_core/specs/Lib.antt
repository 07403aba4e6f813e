pub mod Apdu
pub mod ClassBytes
pub mod Reply
