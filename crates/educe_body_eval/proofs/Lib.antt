pub mod Binds
pub mod Places
pub mod Assigned
