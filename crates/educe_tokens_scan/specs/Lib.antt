pub mod Joining
pub mod Reading
pub mod Scan
pub mod InPlace
