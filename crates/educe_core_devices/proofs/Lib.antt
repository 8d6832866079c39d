pub mod Fronts
pub mod Bytes
