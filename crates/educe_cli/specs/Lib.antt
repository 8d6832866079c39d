pub mod Adapters
pub mod Ending
