pub mod Commands
pub mod Outcomes
pub mod Stages
pub mod StageLaws
pub mod Parts
pub mod PartLaws
pub mod BadParts
