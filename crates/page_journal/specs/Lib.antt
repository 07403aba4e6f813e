pub mod Journal
pub mod Laws
pub mod Moments
pub mod Pages
pub mod Store
pub mod Touches
pub mod Phases
