pub mod StateShown
pub mod HoldersFound
pub mod KeyOrder
pub mod LiveEnds
pub mod ObjectsHeld
pub mod RequestJudged
pub mod Prelude
