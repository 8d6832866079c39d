pub mod Words
pub mod Raw
pub mod Spelled
