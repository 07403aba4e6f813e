pub mod AboveBelow
pub mod AboveChanges
pub mod AboveNamed
pub mod Climb
pub mod Compared
pub mod DomainsStay
pub mod LineLength
pub mod LinesStay
pub mod OnLine
pub mod Paths
mod Stepped
pub mod FirstFound
