pub mod IsCard
pub mod CardSlots
pub mod LoadPages
