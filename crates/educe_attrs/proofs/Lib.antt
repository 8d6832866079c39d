pub mod Refused
pub mod Settings
pub mod NoField
