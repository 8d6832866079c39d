pub mod Traits
pub mod Paths
pub mod OneWord
pub mod Named
