pub mod CheckedTypes
pub mod Counted
pub mod Armed
pub mod Blocked
