pub mod Distinct
pub mod Keys
pub mod Interned
pub mod Places
