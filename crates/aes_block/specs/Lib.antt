pub mod Field
pub mod Sbox
pub mod Words
pub mod Cipher
pub mod Inverse
pub mod State
