pub mod Words
pub mod Chosen
pub mod Held
pub mod Laws
