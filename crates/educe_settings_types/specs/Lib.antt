-- The types of the fields that are visited.
pub mod Visits
-- Whether `clone` copies values as a whole.
pub mod Bitwise
-- What `Default` reads of a definition, and what it makes.
pub mod Defaults
pub mod Chosen
-- What `Debug` reads of a definition.
pub mod Read
