-- Words, and how functions read fields.
pub mod OneWord
pub mod Readings
-- The predicates that are added.
pub mod Adding
-- Laws that hold with no call.
pub mod Laws
