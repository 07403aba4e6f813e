pub mod Outside
pub mod Taken
pub mod Taker
pub mod Ends
pub mod Exit
pub mod Turn
