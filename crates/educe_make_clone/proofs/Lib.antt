pub mod KeptLists
pub mod Matched
pub mod Assigning
