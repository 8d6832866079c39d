-- The laws of `Eq` as terms.
pub mod EqLaws
-- The names that functions declare.
pub mod Names
-- The laws of comparisons as terms.
pub mod Laws
