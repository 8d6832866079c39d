pub mod Printed
pub mod Separated
pub mod Prefixed
pub mod Literals
pub mod Tokens
