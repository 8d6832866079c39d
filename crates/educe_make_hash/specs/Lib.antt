-- The names that functions declare.
pub mod HashNames
-- The laws of what is derived, as terms.
pub mod Laws
