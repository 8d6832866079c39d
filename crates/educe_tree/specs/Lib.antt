pub mod Names
pub mod Printed
pub mod Words
pub mod Params
pub mod Fields
pub mod TokenLaws
