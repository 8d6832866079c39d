-- The blocks of `Clone`.
pub mod CloneBlocks
pub mod CloneNames
pub mod ClonePaths
pub mod FromArms
pub mod Matches
-- The laws of `Clone` as terms.
pub mod CloneLaws
