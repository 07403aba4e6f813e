mod Bits
mod Causes
mod ChangedTables
mod Committing
mod Keeping
mod Kept
mod LaidOut
pub mod Leaving
pub mod OneRegistry
mod OneThing
mod Places
mod Raising
pub mod Readings
pub mod Reopening
pub mod Rooms
pub mod Roomy
pub mod SlotPages
mod Staging
mod Written
