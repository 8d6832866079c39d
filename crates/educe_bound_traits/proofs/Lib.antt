pub mod Words
pub mod OneWord
pub mod Apart
