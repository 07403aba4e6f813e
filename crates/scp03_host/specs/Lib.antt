pub mod Begin
pub mod Wrapped
pub mod Unwrapped
pub mod Agreement
