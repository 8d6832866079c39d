pub mod Types
pub mod Ranges
pub mod Literals
pub mod Numbers
pub mod Printed
