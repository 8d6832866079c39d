-- The comparisons, the forms of attributes of each trait, and the traits that a definition lists.
pub mod Comparisons
-- The discriminants of variants.
pub mod Discriminants
-- What a comparison means of two values.
pub mod Comparing
-- What `Hash` means of a value.
pub mod Hashing
-- What `Debug` means of a value.
pub mod Showing
-- What the items of a trait hold, and what their functions evaluate to.
pub mod Steps
pub mod Headers
pub mod Arms
pub mod Making
-- What `Clone` means of values.
pub mod Cloning
pub mod HashBodies
pub mod CloneBodies
pub mod ShownBodies
pub mod Checks
pub mod Markers
pub mod Blocks
-- What a handler is asked for, and what it adds.
pub mod Handlers
-- Laws that hold with no call, as terms and as records.
pub mod BodyLaws
pub mod Laws
pub mod OrderLaws
pub mod HashLaws
pub mod DefaultLaws
pub mod EqLaws
pub mod CloneLaws
pub mod DebugLaws
pub mod HeaderLaws
