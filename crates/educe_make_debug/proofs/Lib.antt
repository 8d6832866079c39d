-- The cases of a definition.
pub mod Cases
-- Names that are needed.
pub mod Needs
-- Why the handler does not reject.
pub mod Enough
pub mod Uncaused
-- The names that the block of `Debug` declares.
pub mod ChosenBehind
-- The forms on fields, and the blocks of `fmt`.
pub mod EntryKeys
pub mod EntryLists
pub mod ShownBlocks
-- The markers of fields that are shown.
pub mod Marked
