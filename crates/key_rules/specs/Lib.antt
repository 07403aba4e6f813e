pub mod Staying
pub mod PutFails
pub mod InSlots
