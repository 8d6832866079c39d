-- The names that are shown, and how the values of each case are.
pub mod Texts
pub mod Origins
pub mod Cases
-- What is read of a definition.
-- Names that are needed.
pub mod Needs
-- The names that the block of `Debug` declares.
pub mod DebugNames
-- The forms on fields.
pub mod Entries
