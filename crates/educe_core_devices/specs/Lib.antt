pub mod Devices
pub mod Plan
pub mod Memory
pub mod Status
