pub mod Offer
pub mod Levels
pub mod Session
pub mod Opens
pub mod Protected
pub mod Kept
pub mod Laws
