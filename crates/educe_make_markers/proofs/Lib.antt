pub mod OwnMethods
pub mod KeptFields
pub mod Visiting
pub mod Marking
