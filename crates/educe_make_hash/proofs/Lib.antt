-- The arms of enums.
pub mod ArmLists
