pub mod Lints
pub mod Represented
pub mod Packed
pub mod Types
pub mod Adjusted
